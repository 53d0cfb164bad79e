use Rattle.std.proofs.Common.{◌≡◌, ℕ, ◌+◌, length, get_or, sym, ◌∙◌, ap, subst, arith}
use Rattle.reo_net_base.specs.Net.{Net, net_of, no_side}
use Rattle.reo_net_base.specs.declared.joint.End.{End}
use Rattle.reo_side_tables.specs.Marks.{byte_of, common_in, groups_in}
use Rattle.reo_side_tables.proofs.Cells.{AreCells, byte_at, cells_more, cells_next, cells_all}
use Rattle.reo_side_tables.proofs.Sides.{end_of_side}
use Rattle.reo_side_tables.proofs.columns.columns_of.Goals as goal

pub common-requires-clause-end : goal.common-requires-clause-end
common-requires-clause-end g c =
    let net : Net = net_of g.P.Primitive.behaviour c.args.circuit.now in
    λ e. rw c.end_at-end.ensures (end_of_side net c.known.ensures.wired c.args.side (get_or c.args.joints.now c.loop-index.index 0) (c.requires.joints c.loop-index.index (omega arith)) e)

pub loop-group-preserved : goal.loop-group-preserved
loop-group-preserved g c =
    let net : Net = net_of g.P.Primitive.behaviour c.args.circuit.now in
    let is : c.byte_of.result ≡ byte_at net c.args.side c.args.joints.now c.loop-index.index c.loop-group.group =
    c.byte_of.ensures ∙ ap byte_of (c.common.ensures no_side ∙ ap (λ (x : End). common_in net c.args.side c.loop-group.group x.end) c.end_at-end.ensures) in
    subst (AreCells net c.args.side c.args.joints.now c.loop-index.index (c.loop-group.group + 1)) (sym c.in_ok-push.ensures.ok)
    (cells_more net c.args.side c.args.joints.now c.loop-index.index c.loop-group.group c.byte_of.result c.loop-group.columns c.loop-group.invariant is)

pub loop-index-preserved : goal.loop-index-preserved
loop-index-preserved g c =
    let net : Net = net_of g.P.Primitive.behaviour c.args.circuit.now in
    let last : c.loop-group.group ≡ groups_in net c.args.side = omega (arith, c.groups-group-end.ensures no_side) in
    cells_next net c.args.side c.args.joints.now c.loop-index.index c.loop-group.columns (subst (λ (x : ℕ). AreCells net c.args.side c.args.joints.now c.loop-index.index x c.loop-group.columns) last c.loop-group.invariant)

pub returns : goal.returns
returns g c =
    let net : Net = net_of g.P.Primitive.behaviour c.args.circuit.now in
    let last : c.loop-index.index ≡ length c.args.joints.now = omega arith in
    cells_all net c.args.side c.args.joints.now c.loop-index.columns (subst (λ (x : ℕ). AreCells net c.args.side c.args.joints.now x 0 c.loop-index.columns) last c.loop-index.invariant)
