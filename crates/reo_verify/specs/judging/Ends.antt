-- Endings of runs.
use Rattle.std.specs.Prelude.{ℕ, ◌≡◌, ◌⊎◌, None, Some, Option}
use Rattle.reo_trace.specs.declared.line.Ending.{Ending}
use Rattle.reo_runs.specs.verdicts.Replays.{MayStop}

-- The ending of a run that is over so, or, where it is not, in place of the round of a number.
abbrev pub IsEndOf : Option Ending → ℕ → Ending → Type 0
IsEndOf over turn ending = (over ≡ Some ending) ⊎ ((over ≡ None) × MayStop turn ending)
