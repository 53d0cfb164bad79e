-- Declaration by declaration, and then the ports.
use Rattle.std.proofs.Common.{arith, ◌≡◌, ◌∙◌, ℕ, ◌<◌, zero, suc, List, [], ◌∷◌, ◌++◌, length, get_or, map, Bool, true, false, ◌||◌, inl, inr, zip, nat_lt, refl, sym, subst, codes}
use Rattle.std.specs.List.{AllByRecursion, flat_map}
use Rattle.std.proofs.lemmas.Bool.{leb-false}
use Rattle.std.proofs.lemmas.List.{append-nil, append_assoc, length-append, length-map}
use Rattle.reo_values.specs.declared.kindred.Kindred.{Kindred}
use Rattle.reo_trees.specs.declared.programs.Parameter.{Parameter}
use Rattle.reo_trees.specs.declared.programs.Connector.{Connector}
use Rattle.reo_trees.specs.declared.programs.Declaration.{Declaration}
use Rattle.reo_trees.specs.declared.programs.Declaration.TheVariants as declarations
use Rattle.reo_rules.specs.Lists.{each_after}
use Rattle.reo_rules.specs.Types.{Typed, types_of}
use Rattle.reo_rules.specs.Scopes.{connectors_of, parameter_names}
use Rattle.reo_flat.specs.Unfolding.{Placed, Meaning, meaning_of, meaning_named, meanings_of, meanings_after}
use Rattle.reo_flat.specs.Flat.{main_parameters, nodes_of, placed_of, primitives_of, own_kinds, port_of, port_placed, port_kind, way_of}
use Rattle.reo_rules.specs.Twice.{twice_in, twice_in_connector}
use Rattle.reo_rules.specs.Arity.{arity_in}
use Rattle.reo_rules.specs.Dangling.{dangling_in}
use Rattle.reo_rules.proofs.AfterLemmas.{where_false}
use Rattle.reo_flat.proofs.flatten_laws.Breaks.{left_none, right_none, one_more, unbroken}
use Rattle.reo_flat.proofs.flatten_laws.Within.{In, in_either}
use Rattle.reo_flat.proofs.flatten_laws.OnceTwice.{names_once}
use Rattle.reo_flat.proofs.flatten_laws.TwoEnds.{placed_narrow}
use Rattle.reo_flat.proofs.flatten_laws.Served.{HasEnd, some_end, few_ends, end_right, IsServing, AreServing, serving_named}
use Rattle.reo_flat.proofs.flatten_laws.ServedItems.{connector_serves}
use Rattle.reo_flat.proofs.flatten_laws.nodes.nodes_are_served.Goals as goal

grown : (cs : List Connector) (ms : List Meaning) (c : Connector) (m : Meaning) → AreServing cs ms → m.name ≡ c.name → IsServing m c.parameters → AreServing (cs ++ c ∷ []) (ms ++ m ∷ [])
grown [] [] c m serving name one = (name, one, tt)
grown [] (k ∷ ks) c m serving name one = absurd serving
grown (b ∷ bs) [] c m serving name one = absurd serving
grown (b ∷ bs) (k ∷ ks) c m serving name one = (serving.0, serving.1, grown bs ks c m serving.2 name one)

all_serve : (before ds : List Declaration) (known : List Meaning) (types : List Typed) → AreServing (connectors_of before) known → each_after twice_in before ds ≡ [] → each_after arity_in before ds ≡ [] → each_after dangling_in before ds ≡ []
    → AreServing (connectors_of (before ++ ds)) (meanings_after known types ds)
all_serve before [] known types serving once fits none = subst (λ b. AreServing (connectors_of b) known) (sym (append-nil before)) serving
all_serve before (declarations.Named line name term ∷ ds) known types serving once fits none =
    let d = declarations.Named line name term in
    let more = subst (λ cs. AreServing cs known) (sym (one_more before d ∙ append-nil (connectors_of before))) serving in
    subst (λ b. AreServing (connectors_of b) (meanings_after known types (d ∷ ds))) (append_assoc before (d ∷ []) ds)
    (all_serve (before ++ d ∷ []) ds known _ more (right_none (twice_in before d) _ once) (right_none (arity_in before d) _ fits) (right_none (dangling_in before d) _ none))
all_serve before (declarations.Made c ∷ ds) known types serving once fits none =
    let d = declarations.Made c in
    let m = meaning_of known types c in
    let names = names_once c (right_none _ (twice_in_connector c) (left_none (twice_in before d) _ once)) in
    let one = connector_serves (connectors_of before) known types c serving names (left_none (arity_in before d) _ fits) (left_none (dangling_in before d) _ none) in
    let more = subst (λ cs. AreServing cs (known ++ m ∷ [])) (sym (one_more before d)) (grown (connectors_of before) known c m serving refl one) in
    subst (λ b. AreServing (connectors_of b) (meanings_after known types (d ∷ ds))) (append_assoc before (d ∷ []) ds)
    (all_serve (before ++ d ∷ []) ds (known ++ m ∷ []) types more (right_none (twice_in before d) _ once) (right_none (arity_in before d) _ fits) (right_none (dangling_in before d) _ none))

-- A port has the end that its channels lack.
port_serves : (w : Bool) (k : Kindred) (name : List ℕ) (rest channels : List Placed) → HasEnd w name channels
    → HasEnd true name (record { kind = (port_kind (way_of w) k); nodes = name ∷ [] } ∷ rest ++ channels) × HasEnd false name (record { kind = (port_kind (way_of w) k); nodes = name ∷ [] } ∷ rest ++ channels)
port_serves true k name rest channels there = (inr (end_right true name rest channels there), inl (inl (refl, refl)))
port_serves false k name rest channels there = (inl (inl (refl, refl)), inr (end_right false name rest channels there))

ports_serve : (types : List Typed) (ps : List Parameter) (channels : List Placed) → AllByRecursion (λ (q : List ℕ × Parameter). HasEnd q.1.inward q.0 channels) (zip (parameter_names ps) ps)
    → (n : List ℕ) → In (parameter_names ps) n → HasEnd true n (map port_placed (map (port_of types) ps) ++ channels) × HasEnd false n (map port_placed (map (port_of types) ps) ++ channels)
ports_serve types [] channels given n there = absurd there
ports_serve types (p ∷ ps) channels given n (inl is) =
    let rest = map port_placed (map (port_of types) ps) in
    let all = map port_placed (map (port_of types) (p ∷ ps)) ++ channels in
    subst (λ m. HasEnd true m all × HasEnd false m all) (sym is) (port_serves p.inward (port_of types p).kindred p.name rest channels given.0)
ports_serve types (p ∷ ps) channels given n (inr later) = let more = ports_serve types ps channels given.1 n later in (inr more.0, inr more.1)

-- Few primitives.
first_false : (a b c : Bool) → (a || b || c) ≡ false → a ≡ false
first_false true b c is = absurd (cc)
first_false false b c is = refl

in_at : (xs : List (List ℕ)) (k : ℕ) (d : List ℕ) → k < length xs → In xs (get_or xs k d)
in_at [] k d below = absurd (omega arith)
in_at (x ∷ xs) zero d below = inl refl
in_at (x ∷ xs) (suc k) d below = inr (in_at xs k d (omega arith))

pub returns : goal.returns
returns c ds none k d below =
    let kept = unbroken ds none in
    let serving = all_serve [] ds [] [] tt kept.rules.types.names.no_twice kept.rules.no_arity kept.rules.no_dangling in
    let ps = main_parameters ds in
    let main = meaning_named (meanings_of ds) (codes "main") in
    let channels = main.channels [] (parameter_names ps) in
    let serves = serving_named (connectors_of ds) (meanings_of ds) serving (codes "main") [] (parameter_names ps) (length-map ps (λ (p : Parameter). p.name)) in
    let ports = map port_placed (map (port_of (types_of ds)) ps) in
    let node = get_or (nodes_of ds) k d in
    let whole : HasEnd true node (placed_of ds) × HasEnd false node (placed_of ds) = elim (in_either (parameter_names ps) (main.nodes []) node (in_at (nodes_of ds) k d below)) [
      | inl given ↦ ports_serve (types_of ds) ps channels serves.given node given
      | inr own ↦ let two = serves.own node own in (end_right true node ports channels two.0, end_right false node ports channels two.1)
    ] in
    let small = leb-false (suc 4096) (length (primitives_of ds)) (first_false (nat_lt 4096 (length (primitives_of ds))) (nat_lt 65536 main.uses) (nat_lt 64 main.depth) (where_false _ _ kept.few)) in
    let parts = length-append (map (λ (p : Placed). p.kind) (placed_of ds)) (flat_map (own_kinds (placed_of ds)) (nodes_of ds)) in
    let same = length-map (placed_of ds) (λ (p : Placed). p.kind) in
    let ins = few_ends false node 0 (placed_of ds) (placed_narrow ds) in
    let outs = few_ends true node 0 (placed_of ds) (placed_narrow ds) in
    record {
      incoming_some = some_end false node 0 (placed_of ds) whole.1;
      outgoing_some = some_end true node 0 (placed_of ds) whole.0;
      incoming_few = omega arith;
      outgoing_few = omega arith;
    }
