-- The types of the ports of a program are those of their nodes.
use Rattle.std.proofs.Common.{◌≡◌, ℕ, zero, suc, List, [], ◌∷◌, ◌++◌, Bool, true, false, cond, inl, inr, find, refl, sym, ap, subst, map, bytes_eq}
use Rattle.std.specs.Prelude.{Some, unwrap_or, option_map, slice_get}
use Rattle.std.proofs.lemmas.Slice.Eq.{bytes_eq-Decides}
use Rattle.reo_values.specs.declared.kindred.Kindred.{Kindred}
use Rattle.reo_values.specs.declared.kindred.Kindred.TheVariants as kinds
use Rattle.reo_exprs.proofs.Options.{some_same}
use Rattle.reo_net_base.specs.declared.port.Port.{Port}
use Rattle.reo_net_base.specs.Net.{end_of}
use Rattle.reo_trees.specs.declared.programs.Parameter.{Parameter}
use Rattle.reo_rules.specs.Types.{Typed, names_of, type_named}
use Rattle.reo_rules.specs.Scopes.{parameter_type}
use Rattle.reo_flat.specs.Unfolding.{Placed}
use Rattle.reo_flat.specs.Flat.{port_of, port_placed}
use Rattle.reo_flat.proofs.flatten_laws.Within.{In}
use Rattle.reo_flat.proofs.flatten_laws.Once.{Once}
use Rattle.reo_flat.proofs.flatten_laws.TypedNodes.{all_left, HasTypes}
use Rattle.reo_runs.proofs.run_texts.Keeping.{EndTypes}
use Rattle.reo_runs.proofs.run_texts.TypedItems.{type_at}
use Rattle.reo_runs.proofs.run_texts.ProgramKinds.{placed_types}

-- Each of a list of names that stand once has its own type.
behind : (x : Typed) (es rest : List Typed) → (In (names_of rest) x.name → ⊥) → HasTypes (type_named es) rest → HasTypes (type_named (x ∷ es)) rest
behind x es [] apart has = tt
behind x es (e ∷ rest) apart has = (step (bytes_eq e.name x.name) refl has.0, behind x es rest (λ there. apart (inr there)) has.1) where
  step : (b : Bool) → bytes_eq e.name x.name ≡ b → type_named es e.name ≡ e.kindred → unwrap_or (option_map (λ (t : Typed). t.kindred) (cond b (Some x) (find (λ (t : Typed). bytes_eq e.name t.name) es))) kinds.Unit ≡ e.kindred
  step true is rest' = absurd (apart (inl (sym ((bytes_eq-Decides e.name x.name).0 is))))
  step false is rest' = rest'

its_own : (x : Typed) (es : List Typed) → type_named (x ∷ es) x.name ≡ x.kindred
its_own x es = step (bytes_eq x.name x.name) ((bytes_eq-Decides x.name x.name).1 refl) where
  step : (b : Bool) → b ≡ true → unwrap_or (option_map (λ (t : Typed). t.kindred) (cond b (Some x) (find (λ (t : Typed). bytes_eq x.name t.name) es))) kinds.Unit ≡ x.kindred
  step true is = refl
  step false is = absurd (cc)

each_own : (es : List Typed) → Once (names_of es) → HasTypes (type_named es) es
each_own [] once = tt
each_own (x ∷ es) once = (its_own x es, behind x es es once.0 (each_own es once.1))

-- The type of a port is that of its node.
port_named : (types : List Typed) (T : List ℕ → Kindred) (ps : List Parameter) → HasTypes T (map (parameter_type types) ps) → (i : ℕ) (p : Port) → slice_get (map (port_of types) ps) i ≡ Some p → T p.name ≡ p.kindred
port_named types T [] has i p is = absurd (cc)
port_named types T (q ∷ qs) has zero p is = subst (λ (x : Port). T x.name ≡ x.kindred) (some_same (port_of types q) p is) has.0
port_named types T (q ∷ qs) has (suc i) p is = port_named types T qs has.1 i p is

pub own_port_types : (types : List Typed) (ps : List Parameter) (nodes : List Typed) → Once (names_of (map (parameter_type types) ps ++ nodes)) → (i : ℕ) (p : Port) → slice_get (map (port_of types) ps) i ≡ Some p
    → type_named (map (parameter_type types) ps ++ nodes) p.name ≡ p.kindred
own_port_types types ps nodes once i p is =
    let es = map (parameter_type types) ps ++ nodes in
    let T = type_named es in
    port_named types T ps (all_left (λ (e : Typed). T e.name ≡ e.kindred) (map (parameter_type types) ps) nodes (each_own es once)) i p is

-- The end of a port has the type of its node.
pub at_port : (T : List ℕ → Kindred) (ports : List Port) (rest : List Placed) (back : List EndTypes) (i : ℕ) (p : Port) → slice_get ports i ≡ Some p
    → type_at (map (placed_types T) (map port_placed ports ++ rest) ++ back) (end_of i 0) ≡ T p.name
at_port T [] rest back i p is = absurd (cc)
at_port T (q ∷ qs) rest back zero p is = ap (λ (x : Port). T x.name) (some_same q p is)
at_port T (q ∷ qs) rest back (suc i) p is = at_port T qs rest back i p is
