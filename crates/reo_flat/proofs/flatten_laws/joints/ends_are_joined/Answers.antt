-- An end stands once among the ends of all joints.
use Rattle.std.proofs.Common.{arith, zero-add, ◌≡◌, ◌∙◌, ◌+◌, ◌<◌, ◌≤◌, length, map, sym, ap}
use Rattle.std.specs.List.{AllByRecursion, flat_map}
use Rattle.std.proofs.lemmas.List.{length-map, map-append}
use Rattle.reo_net_base.specs.Net.{end_of, end_eq}
use Rattle.reo_net_circuit.proofs.CountLemmas.{joined_of_count}
use Rattle.reo_kinds.specs.Kinds.{behaviour_of}
use Rattle.reo_flat.specs.Unfolding.{Placed}
use Rattle.reo_flat.specs.Ends.{incoming, outgoing}
use Rattle.reo_flat.specs.Flat.{nodes_of, placed_of, joints_in, own_kinds, primitives_of}
use Rattle.reo_flat.proofs.flatten_laws.Within.{In, has-in}
use Rattle.reo_flat.proofs.flatten_laws.Times.{one_if, times, ends_in_joints, one_joint}
use Rattle.reo_flat.proofs.flatten_laws.NodeSums.{all_ends_at_nodes, all_joint_ends}
use Rattle.reo_flat.proofs.flatten_laws.AllEnds.{total, total-append, once_in_total, listed-total, own-total}
use Rattle.reo_flat.proofs.flatten_laws.TwoEnds.{once_of, placed_fits}
use Rattle.reo_flat.proofs.flatten_laws.joints.ends_are_joined.Goals as goal
use Rattle.reo_flat.proofs.flatten_laws.Each.{by_recursion}

pub returns : goal.returns
returns c ds plain none known fits served i below end is_end =
    let placed = placed_of ds in
    let nodes = nodes_of ds in
    let e = end_of i end in
    let once = once_of nodes (c.nodes_are_distinct.ensures ds plain none) in
    let names = c.nodes_are_known.ensures ds known fits in
    let inside = by_recursion (λ (p : Placed). AllByRecursion (In nodes) p.nodes) placed (λ k d b. by_recursion (In nodes) _ (λ m n w. has-in nodes _ (names k d b m n w))) in
    let some = by_recursion (λ n. (0 < length (incoming placed n)) × (0 < length (outgoing placed n))) nodes (λ k d b. ((served k d b).incoming_some, (served k d b).outgoing_some)) in
    let few = by_recursion (λ n. (length (incoming placed n) ≤ 8192) × (length (outgoing placed n) ≤ 8192)) nodes (λ k d b. ((served k d b).incoming_few, (served k d b).outgoing_few)) in
    let joints = all_joint_ends e placed (length placed) nodes some in
    let ends = all_ends_at_nodes nodes once (λ x. one_if (end_eq x e)) 0 placed inside in
    let mine = listed-total e 0 placed (placed_fits ds) in
    let own = own-total e placed (length placed) nodes few in
    let kinds = map (λ (p : Placed). p.kind) placed in
    let owns = flat_map (own_kinds placed) nodes in
    let split = ap (total e 0) (map-append behaviour_of kinds owns) ∙ total-append e 0 (map behaviour_of kinds) (map behaviour_of owns) in
    let long : 0 + length (map behaviour_of kinds) ≡ length placed = zero-add _ ∙ length-map kinds behaviour_of ∙ length-map placed (λ (p : Placed). p.kind) in
    let at = ap (λ k. total e k (map behaviour_of owns)) long in
    let valid = once_in_total i end 0 (map behaviour_of (primitives_of ds)) below is_end in
    let valid' = ap (λ j. total (end_of j end) 0 (map behaviour_of (primitives_of ds))) (sym (zero-add i)) ∙ valid in
    let one : times e (ends_in_joints (joints_in ds)) ≡ 1 = omega arith in
    joined_of_count (joints_in ds) e (one_joint e (joints_in ds) one)
