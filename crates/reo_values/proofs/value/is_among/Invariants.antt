use Rattle.std.proofs.Common.{ℕ, ◌<◌, ◌≢◌, get_or}
use Rattle.reo_values.specs.declared.value.Value.{Value}
use Rattle.reo_values.proofs.value.is_among.Given as goal

-- None of the items so far is it.
abbrev pub invariant-loop-other : goal.invariant-loop-other
invariant-loop-other l = (k : ℕ) (d : Value) → k < l.other-index → get_or l.items k d ≢ l.item
