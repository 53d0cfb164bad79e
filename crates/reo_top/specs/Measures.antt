-- What came of the run of made work.
use Rattle.std.specs.Prelude.{ℕ, ◌+◌, ◌++◌, List, Option, Some, None, length, codes}
use Rattle.std.specs.Fmt.{decimal}
use Rattle.reo_trace.specs.declared.line.RoundLine.{RoundLine}
use Rattle.reo_trace.specs.declared.line.Ending.{Ending}
use Rattle.reo_trace.specs.declared.line.Ending.TheVariants.{Done, Stuck, Limit, Spent, Wide}
use Rattle.reo_trace.specs.EndingText.{ending_text}
use Rattle.reo_runner.specs.declared.outcome.Limits.{Limits}
use Rattle.reo_runner.specs.declared.outcome.End2.{End2}
use Rattle.reo_runner.specs.declared.outcome.End2.TheVariants as ends
use Rattle.reo_command.specs.Readings.{kind_rules, Runnable}
use Rattle.reo_runs.specs.Run.{IsRun, start_of}
use Rattle.reo_runs.specs.Written.{moved, is_in, is_out}
use Rattle.reo_command.specs.Limits.{usual_limits, firsts_for}
use Rattle.reo_command.specs.Made.{ReadsMade}
use Rattle.reo_command.specs.Statuses.{done, part_over}
use Rattle.reo_command.specs.top_base.Outputs.{Outputs, IsLine}

-- The line of a run: the size of its work, its primitives and rounds, what moved in and out in them, and how it ended.
abbrev pub measure_text : (size primitives rounds written delivered : ℕ) → List ℕ → List ℕ
measure_text size primitives rounds written delivered end =
    codes "bench " ++ decimal size ++ codes ": " ++ decimal primitives ++ codes " primitives, " ++ decimal rounds ++ codes " rounds, "
    ++ decimal written ++ codes " written, " ++ decimal delivered ++ codes " delivered, " ++ end ++ codes "\n"

-- The same by the ending; where a part is over, the line of that ending.
abbrev pub measure_line : (size primitives rounds written delivered : ℕ) → Ending → List ℕ
measure_line size primitives rounds written delivered (Done _) = measure_text size primitives rounds written delivered (codes "done")
measure_line size primitives rounds written delivered (Stuck _) = measure_text size primitives rounds written delivered (codes "stuck")
measure_line size primitives rounds written delivered (Limit _) = measure_text size primitives rounds written delivered (codes "limit")
measure_line size primitives rounds written delivered (Spent round knot weight budget) = ending_text (Spent round knot weight budget)
measure_line size primitives rounds written delivered (Wide round knot) = ending_text (Wide round knot)

-- Its status.
abbrev pub measure_status : Ending → ℕ
measure_status (Done rounds) = done
measure_status (Stuck rounds) = done
measure_status (Limit rounds) = done
measure_status (Spent round knot weight budget) = part_over
measure_status (Wide round knot) = part_over

-- The line of the run by first colourings, which goes no further than this, with its status.
abbrev pub MeasuresRun : ℕ → Limits → Runnable → Outputs
MeasuresRun size limits r bytes code =
    (lines : List RoundLine) × (ending : Ending) × IsRun (firsts_for limits) kind_rules (start_of r.flat.wiring r.script.components) lines ending
    × IsLine (measure_line size (length r.flat.wiring.primitives) (length lines) (moved is_in r.flat.ports lines) (moved is_out r.flat.ports lines) ending)
    (measure_status ending) bytes code

-- The same of made work.
abbrev pub MeasuresMade : ℕ → Outputs
MeasuresMade size bytes code = (r : Runnable) × ReadsMade size r × MeasuresRun size usual_limits r bytes code

-- The ending that the end of a run stands for, after so many rounds.
abbrev pub ending_for : (budget rounds : ℕ) → End2 → Option Ending
ending_for budget rounds ends.Done = Some (Done rounds)
ending_for budget rounds ends.Stuck = Some (Stuck rounds)
ending_for budget rounds ends.Limit = Some (Limit rounds)
ending_for budget rounds (ends.Spent knot weight) = Some (Spent (rounds + 1) knot weight budget)
ending_for budget rounds (ends.Wide knot) = Some (Wide (rounds + 1) knot)
ending_for budget rounds ends.WriteFault = None
ending_for budget rounds ends.NoMemory = None
