use Rattle.std.proofs.Common.{◌≡◌, ◌<◌, ℕ, false, get_or}
use Rattle.reo_refute_live.proofs.support.marks.has_flow.Given as goal

-- None of the items so far may flow.
abbrev pub invariant-loop-number : goal.invariant-loop-number
invariant-loop-number l = (k : ℕ) → k < l.number → get_or l.flows k false ≡ false
