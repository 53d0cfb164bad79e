-- The trace of the run of a script on a circuit.
use Rattle.std.specs.Prelude.{ℕ, ◌≡◌, List}
use Rattle.reo_trace.specs.declared.line.RoundLine.{RoundLine}
use Rattle.reo_trace.specs.declared.line.Ending.{Ending}
use Rattle.reo_trace.specs.declared.line.Ending.TheVariants.{Done, Stuck, Limit, Spent, Wide}
use Rattle.reo_trace.specs.TraceText.{trace_text}
use Rattle.reo_runs.specs.Round.{Choosing}
use Rattle.reo_runs.specs.Run.{IsRun, start_of}
use Rattle.reo_command.specs.Readings.{kind_rules, Runnable}
use Rattle.reo_runner.specs.declared.outcome.Limits.{Limits}
use Rattle.reo_command.specs.Limits.{firsts_for}
use Rattle.reo_command.specs.Statuses.{done, stuck, part_over, limit_reached}
use Rattle.reo_command.specs.top_base.Outputs.{Outputs}

-- The status of an ending.
abbrev pub ending_status : Ending → ℕ
ending_status (Done rounds) = done
ending_status (Stuck rounds) = stuck
ending_status (Limit rounds) = limit_reached
ending_status (Spent round knot weight budget) = part_over
ending_status (Wide round knot) = part_over

-- The trace of the run of a script on a circuit, whose rounds and ending are chosen so, with the status of its ending.
pub record IsTraceOf (C : Choosing) (r : Runnable) (bytes : List ℕ) (code : ℕ) : Type 0 where
  pub lines : List RoundLine
  pub ending : Ending
  pub run : IsRun C kind_rules (start_of r.flat.wiring r.script.components) lines ending
  pub bytes_are : bytes ≡ trace_text r.flat.ports lines ending
  pub status : code ≡ ending_status ending

-- The trace of the run by first colourings, which goes no further than this.
abbrev pub TracesRun : Limits → Runnable → Outputs
TracesRun limits = IsTraceOf (firsts_for limits)
