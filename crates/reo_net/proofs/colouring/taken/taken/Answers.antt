use Rattle.std.proofs.Common.{◌∙◌, sym}
use Rattle.reo_net_base.specs.declared.joint.Joint.{Joint}
use Rattle.reo_net.proofs.colouring.ItemLemmas.{taken_from}
use Rattle.reo_net.proofs.colouring.taken.taken.Goals as goal

pub loop-index-preserved : goal.loop-index-preserved
loop-index-preserved c =
    let none : Joint = record { giver = record { primitive = 0; end = 0 }; taker = record { primitive = 0; end = 0 } } in
    let step = taken_from c.args.joints.now c.args.items.now c.args.end c.loop-index.index none c.loop-index-test.true c.requires in
    let miss = rw (← c.same_end.ensures, c.if-same_end.false) at step in
    sym miss ∙ c.loop-index.invariant
