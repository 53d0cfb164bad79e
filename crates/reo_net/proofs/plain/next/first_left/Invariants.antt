use Rattle.std.proofs.Common.{ℕ, ◌<◌}
use Rattle.reo_net.specs.plain.Chosen.{IsChosen}
use Rattle.reo_net.proofs.plain.next.first_left.Given as goal

-- Each side so far is chosen.
abbrev pub invariant-loop-side : goal.invariant-loop-side
invariant-loop-side g l = (k : ℕ) → k < l.side → IsChosen l.chosen k
