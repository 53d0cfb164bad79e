use Rattle.reo_net_base.proofs.order.LinkLemmas.{Linking}
use Rattle.reo_net_base.proofs.order.links.link.Given as goal

abbrev pub invariant-loop-arrow : goal.invariant-loop-arrow
invariant-loop-arrow l = Linking l.ends l.first.items l.next.items l.sides l.arrow
