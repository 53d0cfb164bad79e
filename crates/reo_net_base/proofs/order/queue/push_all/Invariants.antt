use Rattle.reo_net_base.proofs.order.QueueLemmas.{Pushing}
use Rattle.reo_net_base.proofs.order.queue.push_all.Given as goal

abbrev pub invariant-loop-at : goal.invariant-loop-at
invariant-loop-at l = Pushing l.links.ends.items l.side l.fn.queue.order.items l.queue.order.items l.queue.placed.items l.at

abbrev pub decreases-loop-at : goal.decreases-loop-at
decreases-loop-at l = l.at
