use Rattle.std.proofs.Common.{◌-◌, length}
use Rattle.reo_net_base.proofs.order.ReachLemmas.{Reaching}
use Rattle.reo_net_base.proofs.order.cycle.is_on_cycle.Given as goal

abbrev pub invariant-loop-at : goal.invariant-loop-at
invariant-loop-at l = Reaching l.outs.ends.items l.ins.ends.items l.arrow l.queue.order.items l.queue.placed.items l.at

abbrev pub decreases-loop-at : goal.decreases-loop-at
decreases-loop-at l = length l.outs.ends.items - l.at
