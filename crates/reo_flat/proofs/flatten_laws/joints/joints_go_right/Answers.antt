-- Ends at nodes go the way that they are asked for, and those of mergers and replicators by their tables.
use Rattle.std.proofs.Common.{zero-add, ◌≡◌, ◌∙◌, ◌+◌, ◌≤◌, [], length, map, true, false, subst}
use Rattle.std.specs.List.{flat_map}
use Rattle.std.proofs.lemmas.List.{length-map, map-append}
use Rattle.reo_kinds.specs.Kinds.{behaviour_of}
use Rattle.reo_flat.specs.Unfolding.{Placed}
use Rattle.reo_flat.specs.Ends.{incoming, outgoing}
use Rattle.reo_flat.specs.Flat.{nodes_of, placed_of, joints_in, own_kinds, primitives_of}
use Rattle.reo_flat.proofs.flatten_laws.TwoEnds.{placed_fits}
use Rattle.reo_flat.proofs.flatten_laws.RightWays.{Holds, all_hold, holds_split, all_go, GoesOn, joints_go}
use Rattle.reo_flat.proofs.flatten_laws.joints.joints_go_right.Goals as goal
use Rattle.reo_flat.proofs.flatten_laws.Each.{by_recursion, each_of}

pub returns : goal.returns
returns c ds served =
    let placed = placed_of ds in
    let nodes = nodes_of ds in
    let kinds = map (λ (p : Placed). p.kind) placed in
    let owns = flat_map (own_kinds placed) nodes in
    let bs = map behaviour_of (primitives_of ds) in
    let few = by_recursion (λ n. (length (incoming placed n) ≤ 8192) × (length (outgoing placed n) ≤ 8192)) nodes (λ k d b. ((served k d b).incoming_few, (served k d b).outgoing_few)) in
    let parts = holds_split bs 0 (map behaviour_of kinds) (map behaviour_of owns) (subst (Holds bs 0) (map-append behaviour_of kinds owns) (all_hold [] bs)) in
    let long : 0 + length (map behaviour_of kinds) ≡ length placed = zero-add _ ∙ length-map kinds behaviour_of ∙ length-map placed (λ (p : Placed). p.kind) in
    let fits = placed_fits ds in
    let all = joints_go bs placed (λ n. all_go bs false n 0 placed fits parts.0) (λ n. all_go bs true n 0 placed fits parts.0) (length placed) nodes few (subst (λ k. Holds bs k (map behaviour_of owns)) long parts.1) in
    let each = each_of (GoesOn bs) (joints_in ds) all in (
      (λ j d below. record { gives = (each j d below).0.2; takes = (each j d below).1.2 }),
      record {
        givers = λ j d below. ((each j d below).0.0, (each j d below).0.1);
        takers = λ j d below. ((each j d below).1.0, (each j d below).1.1);
      },
    )
