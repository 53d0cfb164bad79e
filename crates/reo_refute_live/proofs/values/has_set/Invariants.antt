use Rattle.std.proofs.Common.{◌≡◌, ◌<◌, ℕ, false, get_or}
use Rattle.reo_refute_live.proofs.values.has_set.Given as goal

-- None of the flags so far is set.
abbrev pub invariant-loop-number : goal.invariant-loop-number
invariant-loop-number l = (k : ℕ) → k < l.number → get_or l.flags k false ≡ false
