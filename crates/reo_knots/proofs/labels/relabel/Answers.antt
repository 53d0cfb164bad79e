use Rattle.std.proofs.Common.{◌<◌, get_or, length, arith, rules}
use Rattle.std.proofs.lemmas.List.Elements.{Contains-get_or}
use Rattle.reo_net_laws.proofs.KnotLabels.{more_written}
use Rattle.reo_knots.proofs.labels.relabel.Goals as goal

pub index_mut-requires : goal.index_mut-requires
index_mut-requires c =
    let here = c.requires (get_or c.args.sides.now c.loop-side.side-index 0) (Contains-get_or c.args.sides.now c.loop-side.side-index 0 (omega arith)) in
    let below : get_or c.args.sides.now c.loop-side.side-index 0 < length c.loop-side.labels.items = omega (arith, here, c.loop-side.invariant.one_each) in
    search rules

pub loop-side-preserved : goal.loop-side-preserved
loop-side-preserved c =
    let here = c.requires (get_or c.args.sides.now c.loop-side.side-index 0) (Contains-get_or c.args.sides.now c.loop-side.side-index 0 (omega arith)) in
    more_written c.args.labels.now.items c.loop-side.labels.items c.args.sides.now c.args.label c.loop-side.side-index (omega arith) (omega (arith, here, c.loop-side.invariant.one_each)) c.loop-side.invariant
