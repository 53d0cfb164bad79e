use Rattle.std.proofs.Common.{ℕ, ◌<◌, length}
use Rattle.reo_net_base.specs.order.Arrows.{OnCycle}
use Rattle.reo_net_base.specs.order.Queue.{IsEmptyQueue}
use Rattle.reo_net_base.proofs.order.cycle.least_on_cycle.Given as goal

abbrev pub invariant-loop-arrow : goal.invariant-loop-arrow
invariant-loop-arrow l = record {
  queue : IsEmptyQueue (length l.outs.ends.items) l.queue.order.items l.queue.placed.items;
  none : (j : ℕ) → j < l.arrow → OnCycle l.outs.ends.items l.ins.ends.items j → ⊥;
}
