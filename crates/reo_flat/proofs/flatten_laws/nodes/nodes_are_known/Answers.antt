-- Declaration by declaration, and then the ports and `main`.
use Rattle.std.proofs.Common.{◌≡◌, ◌∙◌, ℕ, List, [], ◌∷◌, ◌++◌, map, inl, inr, refl, sym, subst, codes}
use Rattle.std.specs.List.{All, flat_map}
use Rattle.std.proofs.lemmas.List.{append-nil, append_assoc, length-map}
use Rattle.std.proofs.lemmas.List.Elements.{All-append}
use Rattle.reo_trees.specs.declared.programs.Parameter.{Parameter}
use Rattle.reo_trees.specs.declared.programs.Connector.{Connector}
use Rattle.reo_trees.specs.declared.programs.Declaration.{Declaration}
use Rattle.reo_trees.specs.declared.programs.Declaration.TheVariants as declarations
use Rattle.reo_rules.specs.Lists.{each_after}
use Rattle.reo_rules.specs.Types.{Typed, types_of, names_of}
use Rattle.reo_rules.specs.Scopes.{connectors_of, connector_names, parameter_names, scope_of}
use Rattle.reo_flat.specs.Unfolding.{Placed, Meaning, meaning_of, meaning_named, meanings_of, meanings_after}
use Rattle.reo_rules.specs.Unknown.{unknown_in, unknown_in_type}
use Rattle.reo_rules.specs.Arity.{arity_in}
use Rattle.reo_flat.specs.Flat.{main_parameters, nodes_of, ports_of, port_of, port_placed}
use Rattle.reo_flat.proofs.flatten_laws.Breaks.{left_none, right_none, one_more}
use Rattle.reo_flat.proofs.flatten_laws.Within.{In, in_left, in_right, in-has, Inside, none_inside, all_cons, Claim, Matches, lookup}
use Rattle.reo_flat.proofs.flatten_laws.KnownItems.{items_inside}
use Rattle.reo_flat.proofs.flatten_laws.nodes.nodes_are_known.Goals as goal

grown : (cs : List Connector) (ms : List Meaning) (c : Connector) (m : Meaning) → Matches cs ms → m.name ≡ c.name → Claim c m → Matches (cs ++ c ∷ []) (ms ++ m ∷ [])
grown [] [] c m matches name claim = (name, claim, tt)
grown [] (k ∷ ks) c m matches name claim = absurd matches
grown (b ∷ bs) [] c m matches name claim = absurd matches
grown (b ∷ bs) (k ∷ ks) c m matches name claim = (matches.0, matches.1, grown bs ks c m matches.2 name claim)

claim_of : (before : List Declaration) (known : List Meaning) (types : List Typed) (c : Connector) → Matches (connectors_of before) known
    → unknown_in before (declarations.Made c) ≡ [] → arity_in before (declarations.Made c) ≡ [] → Claim c (meaning_of known types c)
claim_of before known types c matches none fits path arguments same =
    let m = meaning_of known types c in
    let total = arguments ++ m.nodes path in
    items_inside (connectors_of before) known matches (types_of before) types (scope_of types c) (connector_names before) path c.parameters arguments same total (λ n there. in_left arguments (m.nodes path) n there)
    [] c.items (λ n there. absurd there) (λ n there. in_right arguments (m.nodes path) n there) (right_none (flat_map (λ (p : Parameter). unknown_in_type (names_of (types_of before)) p.term) c.parameters) _ none) fits

claims : (before ds : List Declaration) (known : List Meaning) (types : List Typed) → Matches (connectors_of before) known → each_after unknown_in before ds ≡ [] → each_after arity_in before ds ≡ []
    → Matches (connectors_of (before ++ ds)) (meanings_after known types ds)
claims before [] known types matches none fits = subst (λ b. Matches (connectors_of b) known) (sym (append-nil before)) matches
claims before (declarations.Named line name term ∷ ds) known types matches none fits =
    let d = declarations.Named line name term in
    let more = subst (λ cs. Matches cs known) (sym (one_more before d ∙ append-nil (connectors_of before))) matches in
    subst (λ b. Matches (connectors_of b) (meanings_after known types (d ∷ ds))) (append_assoc before (d ∷ []) ds)
    (claims (before ++ d ∷ []) ds known _ more (right_none (unknown_in before d) _ none) (right_none (arity_in before d) _ fits))
claims before (declarations.Made c ∷ ds) known types matches none fits =
    let d = declarations.Made c in
    let m = meaning_of known types c in
    let claim = claim_of before known types c matches (left_none (unknown_in before d) _ none) (left_none (arity_in before d) _ fits) in
    let more = subst (λ cs. Matches cs (known ++ m ∷ [])) (sym (one_more before d)) (grown (connectors_of before) known c m matches refl claim) in
    subst (λ b. Matches (connectors_of b) (meanings_after known types (d ∷ ds))) (append_assoc before (d ∷ []) ds)
    (claims (before ++ d ∷ []) ds (known ++ m ∷ []) types more (right_none (unknown_in before d) _ none) (right_none (arity_in before d) _ fits))

ports_inside : (types : List Typed) (ps : List Parameter) (rest : List (List ℕ)) → Inside (parameter_names ps ++ rest) (map port_placed (map (port_of types) ps))
ports_inside types [] rest = none_inside _
ports_inside types (p ∷ ps) rest =
    all_cons (λ (q : Placed). All (In (parameter_names (p ∷ ps) ++ rest)) q.nodes) (port_placed (port_of types p)) (map port_placed (map (port_of types) ps)) (all_cons (In (parameter_names (p ∷ ps) ++ rest)) p.name [] (inl refl) (none_inside _))
    (λ k d below i e within. inr (ports_inside types ps rest k d below i e within))

pub returns : goal.returns
returns c ds none fits =
    let matches = claims [] ds [] [] tt none fits in
    let ps = main_parameters ds in
    let inner = lookup (connectors_of ds) (meanings_of ds) matches (codes "main") [] (parameter_names ps) (length-map ps (λ (p : Parameter). p.name)) in
    let ports = ports_inside (types_of ds) ps ((meaning_named (meanings_of ds) (codes "main")).nodes []) in
    let all = All-append (λ (p : Placed). All (In (nodes_of ds)) p.nodes) (map port_placed (ports_of ds)) _ ports inner in
    λ k d below i e within. in-has (nodes_of ds) _ (all k d below i e within)
