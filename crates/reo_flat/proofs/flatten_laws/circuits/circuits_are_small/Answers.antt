-- Each end of what is placed is at one node, and a node has at most twice as many joints as ends.
use Rattle.std.proofs.Common.{arith, ◌≡◌, ◌<◌, suc, length, map, Bool, true, false, ◌||◌, nat_lt, refl, codes}
use Rattle.std.specs.List.{AllByRecursion, flat_map}
use Rattle.std.proofs.lemmas.Bool.{leb-false}
use Rattle.std.proofs.lemmas.List.{length-append, length-map}
use Rattle.reo_rules.proofs.AfterLemmas.{where_false}
use Rattle.reo_flat.specs.Unfolding.{Placed, meaning_named, meanings_of}
use Rattle.reo_flat.specs.Ends.{incoming, outgoing}
use Rattle.reo_flat.specs.Flat.{nodes_of, placed_of, own_kinds, primitives_of}
use Rattle.reo_flat.proofs.flatten_laws.Breaks.{unbroken}
use Rattle.reo_flat.proofs.flatten_laws.Within.{In, has-in}
use Rattle.reo_flat.proofs.flatten_laws.NodeSums.{all_ends_at_nodes}
use Rattle.reo_flat.proofs.flatten_laws.TwoEnds.{once_of, placed_narrow}
use Rattle.reo_flat.proofs.flatten_laws.FewJoints.{few_joints, few_listed}
use Rattle.reo_flat.proofs.flatten_laws.circuits.circuits_are_small.Goals as goal
use Rattle.reo_flat.proofs.flatten_laws.Each.{by_recursion}

first_false : (a b c : Bool) → (a || b || c) ≡ false → a ≡ false
first_false true b c is = absurd (cc)
first_false false b c is = refl

pub returns : goal.returns
returns c ds plain none =
    let kept = unbroken ds none in
    let main = meaning_named (meanings_of ds) (codes "main") in
    let placed = placed_of ds in
    let nodes = nodes_of ds in
    let once = once_of nodes (c.nodes_are_distinct.ensures ds plain kept.rules.types.names.no_twice) in
    let names = c.nodes_are_known.ensures ds kept.rules.types.names.no_unknown kept.rules.no_arity in
    let inside = by_recursion (λ (p : Placed). AllByRecursion (In nodes) p.nodes) placed (λ k d b. by_recursion (In nodes) _ (λ m n w. has-in nodes _ (names k d b m n w))) in
    let served = c.nodes_are_served.ensures ds none in
    let some = by_recursion (λ n. (0 < length (incoming placed n)) × (0 < length (outgoing placed n))) nodes (λ k d b. ((served k d b).incoming_some, (served k d b).outgoing_some)) in
    let joints = few_joints placed (length placed) nodes some in
    let ends = all_ends_at_nodes nodes once (λ x. 1) 0 placed inside in
    let listed = few_listed 0 placed (placed_narrow ds) in
    let small = leb-false (suc 4096) (length (primitives_of ds)) (first_false (nat_lt 4096 (length (primitives_of ds))) (nat_lt 65536 main.uses) (nat_lt 64 main.depth) (where_false _ _ kept.few)) in
    let parts = length-append (map (λ (p : Placed). p.kind) placed) (flat_map (own_kinds placed) nodes) in
    let same = length-map placed (λ (p : Placed). p.kind) in
    (omega arith, omega arith)
