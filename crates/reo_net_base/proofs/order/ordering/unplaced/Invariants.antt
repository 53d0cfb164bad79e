use Rattle.std.proofs.Common.{◌≡◌, ◌<◌, ℕ, true, false, get_or}
use Rattle.reo_net_base.proofs.order.ordering.unplaced.Given as goal

abbrev pub invariant-loop-arrow : goal.invariant-loop-arrow
invariant-loop-arrow l = (j : ℕ) → j < l.arrow → get_or l.placed j false ≡ true
