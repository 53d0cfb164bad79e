-- Endings that stand in place of a round.
use Rattle.std.specs.Prelude.{ℕ}
use Rattle.reo_trace.specs.declared.line.Ending.{Ending}
use Rattle.reo_trace.specs.declared.line.Ending.TheVariants.{Spent, Wide}
use Rattle.reo_weights.specs.Over.{Cause}
use Rattle.reo_weights.specs.Over.Cause.{spent, wide}

-- The ending that says why the round of a number cannot be planned.
abbrev pub ending_by : ℕ → Cause → Ending
ending_by turn (spent knot weight budget) = Spent turn knot weight budget
ending_by turn (wide knot) = Wide turn knot
