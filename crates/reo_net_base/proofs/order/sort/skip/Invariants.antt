use Rattle.reo_net_base.proofs.order.SortLemmas.{Skipping}
use Rattle.reo_net_base.proofs.order.sort.skip.Given as goal

abbrev pub invariant-loop-at : goal.invariant-loop-at
invariant-loop-at l = Skipping l.links.ends.items l.side l.placed l.wait l.at

abbrev pub decreases-loop-at : goal.decreases-loop-at
decreases-loop-at l = l.at
