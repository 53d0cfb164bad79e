-- There is exactly one trace.
use Rattle.std.specs.Prelude.{ℕ, ◌≡◌, ◌<◌, ◌^◌, List, [], ◌∷◌, length}
use Rattle.reo_runner.specs.declared.outcome.Limits.{Limits}
use Rattle.reo_command.specs.Fetched.{text}
use Rattle.reo_command.specs.Limits.{firsts_for}
use Rattle.reo_command.specs.Readings.{Runnable, ReadsRun}
use Rattle.reo_top.specs.runs.Traces.{IsTraceOf}

-- The text of the trace of a run, with its status, and that there is no other.
pub record HasOneTrace (limits : Limits) (r : Runnable) : Type 0 where
  pub bytes : List ℕ
  pub code : ℕ
  pub trace : IsTraceOf (firsts_for limits) r bytes code
  pub only : (other : List ℕ) (status : ℕ) → IsTraceOf (firsts_for limits) r other status
      → (other ≡ bytes) × (status ≡ code)

-- For each circuit and script that are accepted there is one trace, however far the run may go. The circuit has fewer than
-- 2^64 bytes, as each that a command reads.
abbrev pub ThereIsOneTrace : Type 0
ThereIsOneTrace =
    (limits : Limits) (circuit script : List ℕ) (r : Runnable) → length circuit < 2 ^ 64
    → ReadsRun (text circuit ∷ text script ∷ []) r → HasOneTrace limits r
