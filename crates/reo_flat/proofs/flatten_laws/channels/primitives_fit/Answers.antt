-- Flat names are distinct, so each node has one type.
use Rattle.std.proofs.Common.{◌≡◌, ℕ, List, [], ◌∷◌, map, Bool, true, false, cond, inl, inr, Some, find, refl, sym, subst, bytes_eq, codes}
use Rattle.std.specs.Prelude.{unwrap_or, option_map}
use Rattle.std.specs.List.{AllByRecursion}
use Rattle.std.proofs.lemmas.List.{length-map}
use Rattle.std.proofs.lemmas.Slice.Eq.{bytes_eq-Decides}
use Rattle.reo_values.specs.declared.kindred.Kindred.{Kindred}
use Rattle.reo_values.specs.declared.kindred.Kindred.TheVariants as kinds
use Rattle.reo_trees.specs.declared.programs.Parameter.{Parameter}
use Rattle.reo_syntax_laws.specs.trees_laws.Spelled.{IsSpelledDeclaration}
use Rattle.reo_rules.specs.Types.{Typed, names_of, type_named, types_of, resolved}
use Rattle.reo_rules.specs.Scopes.{connectors_of, parameter_names, parameter_type}
use Rattle.reo_flat.specs.Unfolding.{meaning_named, meanings_of}
use Rattle.reo_flat.specs.Flat.{main_parameters, way_of, port_of, port_kind, port_placed, nodes_of, placed_of}
use Rattle.reo_flat.specs.flatten_laws.NodeTypes.{typings_of, node_types_of}
use Rattle.reo_flat.specs.flatten_laws.Fitting.{Fits}
use Rattle.reo_flat.proofs.flatten_laws.Breaks.{unbroken}
use Rattle.reo_flat.proofs.flatten_laws.Each.{by_recursion, each_of, both}
use Rattle.reo_flat.proofs.flatten_laws.Within.{In}
use Rattle.reo_flat.proofs.flatten_laws.Once.{Once}
use Rattle.reo_flat.proofs.flatten_laws.TwoEnds.{once_of}
use Rattle.reo_flat.proofs.flatten_laws.TypedNodes.{all_left, all_right, FitsAt, HasTypes, AreGiven, typed_named}
use Rattle.reo_flat.proofs.flatten_laws.TypedPrograms.{all_typed}
use Rattle.reo_flat.proofs.flatten_laws.channels.primitives_fit.Goals as goal

-- Each of a list of names that stand once has its own type.
behind : (x : Typed) (es rest : List Typed) → (In (names_of rest) x.name → ⊥) → HasTypes (type_named es) rest → HasTypes (type_named (x ∷ es)) rest
behind x es [] apart has = tt
behind x es (e ∷ rest) apart has = (step (bytes_eq e.name x.name) refl has.0, behind x es rest (λ there. apart (inr there)) has.1) where
  step : (b : Bool) → bytes_eq e.name x.name ≡ b → type_named es e.name ≡ e.kindred → unwrap_or (option_map (λ (t : Typed). t.kindred) (cond b (Some x) (find (λ (t : Typed). bytes_eq e.name t.name) es))) kinds.Unit ≡ e.kindred
  step true is rest' = absurd (apart (inl (sym ((bytes_eq-Decides e.name x.name).0 is))))
  step false is rest' = rest'

its_own : (x : Typed) (es : List Typed) → type_named (x ∷ es) x.name ≡ x.kindred
its_own x es = step (bytes_eq x.name x.name) ((bytes_eq-Decides x.name x.name).1 refl) where
  step : (b : Bool) → b ≡ true → unwrap_or (option_map (λ (t : Typed). t.kindred) (cond b (Some x) (find (λ (t : Typed). bytes_eq x.name t.name) es))) kinds.Unit ≡ x.kindred
  step true is = refl
  step false is = absurd (cc)

each_own : (es : List Typed) → Once (names_of es) → HasTypes (type_named es) es
each_own [] once = tt
each_own (x ∷ es) once = (its_own x es, behind x es es once.0 (each_own es once.1))

given_by : (types : List Typed) (T : List ℕ → Kindred) (ps : List Parameter) → HasTypes T (map (parameter_type types) ps) → AreGiven types T (parameter_names ps) ps
given_by types T [] has = tt
given_by types T (p ∷ ps) has = (has.0, given_by types T ps has.1)

port_fits : (w : Bool) (k j : Kindred) → j ≡ k → Fits (port_kind (way_of w) k) (j ∷ [])
port_fits true k j is = sym is
port_fits false k j is = tt

ports_fit : (types : List Typed) (T : List ℕ → Kindred) (ps : List Parameter) → HasTypes T (map (parameter_type types) ps) → AllByRecursion (FitsAt T) (map port_placed (map (port_of types) ps))
ports_fit types T [] has = tt
ports_fit types T (p ∷ ps) has = (port_fits p.inward (resolved types p.term.shape) (T p.name) has.0, ports_fit types T ps has.1)

pub returns : goal.returns
returns c p spelled plain none =
    let ds = p.declarations in
    let kept = unbroken ds none in
    let names = kept.rules.types.names in
    let all = all_typed [] ds [] [] [] refl tt tt (record { once = names.no_twice; known = names.no_unknown; typed = kept.rules.types.no_mistyped; bound = kept.rules.no_range; fit = kept.rules.no_arity }) (by_recursion IsSpelledDeclaration ds spelled) in
    let main = typed_named (types_of ds) (connectors_of ds) (meanings_of ds) (typings_of ds) all (codes "main") in
    let ps = main_parameters ds in
    let es = node_types_of ds in
    let T = type_named es in
    let once = subst Once (sym (c.nodes_have_types.ensures ds)) (once_of (nodes_of ds) (c.nodes_are_distinct.ensures ds plain names.no_twice)) in
    let has = each_own es once in
    let first = all_left (λ (e : Typed). T e.name ≡ e.kindred) (map (parameter_type (types_of ds)) ps) _ has in
    let rest = all_right (λ (e : Typed). T e.name ≡ e.kindred) (map (parameter_type (types_of ds)) ps) _ has in
    each_of (FitsAt T) (placed_of ds)
    (both (FitsAt T) (map port_placed (map (port_of (types_of ds)) ps)) ((meaning_named (meanings_of ds) (codes "main")).channels [] (parameter_names ps)) (ports_fit (types_of ds) T ps first)
    (main.fits [] (parameter_names ps) T (length-map ps (λ (q : Parameter). q.name)) (given_by (types_of ds) T ps first) rest))
