-- The table of a trace, as what is owed.
use Rattle.std.proofs.Common.{ℕ, List, refl}
use Rattle.std.specs.Prelude.{◌≢◌}
use Rattle.reo_trace_reader.specs.declared.texts.trace.Trace.{Trace}
use Rattle.reo_runs.specs.declared.verdicts.verdict.Verdict.{Verdict}
use Rattle.reo_runs.specs.declared.verdicts.verdict.Verdict.TheVariants.{Verified, Refused}
use Rattle.reo_command.specs.Claims.{Claimed}
use Rattle.reo_command.specs.Statuses.{IsAmong}
use Rattle.reo_command.proofs.top_base.ToldLemmas.{told_status, told_not_three}
use Rattle.reo_top.specs.verdicts.Judged.{IsTraceJudged}
use Rattle.reo_top.specs.verdicts.VerdictTexts.{verdict_status}
use Rattle.reo_draw_rounds.specs.Tables.{table_text}
use Rattle.reo_top.proofs.verdicts.VerdictLemmas.{not_three}
use Rattle.reo_draw_command.specs.DrawStatuses.{statuses_of_table}
use Rattle.reo_draw_command.specs.Tabled.{tabled_text, TablesTrace}

status_in : (v : Verdict) → IsAmong statuses_of_table (verdict_status v)
status_in (Verified rounds jammed) = refl
status_in (Refused refusal) = refl

module _ (c : Claimed Trace) where
  pub tabled_status : (bytes : List ℕ) (status : ℕ) → TablesTrace c bytes status → IsAmong statuses_of_table status
  tabled_status bytes status h = told_status (IsTraceJudged c) (tabled_text (table_text c.work.flat.ports c.claim)) verdict_status statuses_of_table status_in bytes status h

  pub tabled_not_three : (bytes : List ℕ) (status : ℕ) → TablesTrace c bytes status → status ≢ 3
  tabled_not_three bytes status h = told_not_three (IsTraceJudged c) (tabled_text (table_text c.work.flat.ports c.claim)) verdict_status not_three bytes status h
