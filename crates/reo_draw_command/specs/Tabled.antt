-- What is owed of the table of a trace.
use Rattle.std.specs.Prelude.{ℕ, List}
use Rattle.reo_trace_reader.specs.declared.texts.trace.Trace.{Trace}
use Rattle.reo_runs.specs.declared.verdicts.verdict.Verdict.{Verdict}
use Rattle.reo_runs.specs.declared.verdicts.verdict.Verdict.TheVariants.{Verified, Refused}
use Rattle.reo_command.specs.Claims.{Claimed}
use Rattle.reo_command.specs.top_base.Outputs.{Outputs, IsLine}
use Rattle.reo_top.specs.verdicts.Judged.{IsTraceJudged}
use Rattle.reo_top.specs.verdicts.VerdictTexts.{verdict_line, verdict_status}
use Rattle.reo_draw_rounds.specs.Tables.{table_text}

-- The table of a trace that is verified, and else the line of the verdict.
abbrev pub tabled_text : List ℕ → Verdict → List ℕ
tabled_text table (Verified rounds jams) = table
tabled_text table (Refused refusal) = verdict_line (Refused refusal)

-- It is written, with the status of the verdict.
abbrev pub TablesTrace : Claimed Trace → Outputs
TablesTrace c bytes code =
    (verdict : Verdict) × IsTraceJudged c verdict × IsLine (tabled_text (table_text c.work.flat.ports c.claim) verdict) (verdict_status verdict) bytes code
