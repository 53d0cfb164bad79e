use Rattle.std.proofs.Common.{◌≡◌, ◌-◌, length}
use Rattle.reo_net_base.proofs.order.SortLemmas.{Sorting, AreReady}
use Rattle.reo_net_base.proofs.order.sort.sort.Given as goal

abbrev pub invariant-loop-start : goal.invariant-loop-start
invariant-loop-start l = record {
  sorting : Sorting l.outs.ends.items l.ins.ends.items l.queue.order.items l.queue.placed.items l.waits.items 0;
  ready : AreReady l.outs.ends.items l.queue.placed.items l.waits.items l.start;
}

abbrev pub invariant-loop-at : goal.invariant-loop-at
invariant-loop-at l = record {
  sides : length l.waits.items ≡ length l.ins.first.items;
  sorting : Sorting l.outs.ends.items l.ins.ends.items l.queue.order.items l.queue.placed.items l.waits.items l.at;
  ready : AreReady l.outs.ends.items l.queue.placed.items l.waits.items (length l.waits.items);
}

abbrev pub decreases-loop-at : goal.decreases-loop-at
decreases-loop-at l = length l.outs.ends.items - l.at
