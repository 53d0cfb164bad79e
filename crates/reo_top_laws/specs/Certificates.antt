-- Traces that a run has written.
use Rattle.std.specs.Prelude.{ℕ, ◌<◌, ◌^◌, List, [], ◌∷◌, length}
use Rattle.reo_trace.specs.declared.line.RoundLine.{RoundLine}
use Rattle.reo_runs.specs.declared.verdicts.verdict.Verdict.TheVariants.{Verified}
use Rattle.reo_runs.specs.verdicts.Said.{jammed}
use Rattle.reo_trace_reader.specs.declared.texts.trace.Trace.{Trace}
use Rattle.reo_command.specs.Claims.{Claimed, ReadsClaim}
use Rattle.reo_command.specs.Fetched.{text}
use Rattle.reo_command.specs.Limits.{limits_of, firsts_for}
use Rattle.reo_command.specs.Readings.{Runnable, ReadsRun}
use Rattle.reo_top.specs.verdicts.Judged.{JudgesTrace}
use Rattle.reo_command.specs.Statuses.{done}
use Rattle.reo_top.specs.runs.Traces.{IsTraceOf}
use Rattle.reo_top.specs.verdicts.VerdictTexts.{verdict_line}

-- The files of a circuit, a script and a trace are read together, and the verdict is that the trace is verified.
pub record IsVerified (circuit script trace : List ℕ) (lines : List RoundLine) : Type 0 where
  pub claimed : Claimed Trace
  pub reads : ReadsClaim (text circuit ∷ text script ∷ text trace ∷ []) claimed
  pub judged : JudgesTrace claimed (verdict_line (Verified (length lines) (jammed lines))) done

-- So it is with the trace of a run that was written whole, whatever its ending. The circuit has fewer than 2^64 bytes, as
-- each that a command reads: that has at most 1,048,576.
abbrev pub WrittenTracesAreVerified : Type 0
WrittenTracesAreVerified =
    (words : List (List ℕ)) (circuit script trace : List ℕ) (r : Runnable) (code : ℕ)
    → length circuit < 2 ^ 64 → ReadsRun (text circuit ∷ text script ∷ []) r → (t : IsTraceOf (firsts_for (limits_of words)) r trace code)
    → IsVerified circuit script trace t.lines
