-- The verdict on a trace, as what is owed.
use Rattle.std.proofs.Common.{ℕ, List, refl, arith}
use Rattle.std.specs.Prelude.{◌≢◌}
use Rattle.reo_trace_reader.specs.declared.texts.trace.Trace.{Trace}
use Rattle.reo_runs.specs.declared.verdicts.verdict.Verdict.{Verdict}
use Rattle.reo_runs.specs.declared.verdicts.verdict.Verdict.TheVariants.{Verified, Refused}
use Rattle.reo_command.specs.declared.command.Command.TheVariants.{Verify}
use Rattle.reo_command.specs.Claims.{Claimed}
use Rattle.reo_command.specs.Statuses.{IsAmong, statuses_of}
use Rattle.reo_command.proofs.top_base.ToldLemmas.{told_status, told_not_three}
use Rattle.reo_top.specs.verdicts.Judged.{IsTraceJudged, JudgesTrace}
use Rattle.reo_top.specs.verdicts.VerdictTexts.{verdict_line, verdict_status}

-- The statuses of verdicts.
status_in : (v : Verdict) → IsAmong (statuses_of Verify) (verdict_status v)
status_in (Verified rounds jammed) = refl
status_in (Refused refusal) = refl

pub verdict_not_nine : (v : Verdict) → verdict_status v ≢ 9
verdict_not_nine (Verified rounds jammed) e = omega (arith, e)
verdict_not_nine (Refused refusal) e = omega (arith, e)

pub not_three : (v : Verdict) → verdict_status v ≢ 3
not_three (Verified rounds jammed) e = omega (arith, e)
not_three (Refused refusal) e = omega (arith, e)

module _ (c : Claimed Trace) where
  pub judged_status : (bytes : List ℕ) (status : ℕ) → JudgesTrace c bytes status → IsAmong (statuses_of Verify) status
  judged_status bytes status h = told_status (IsTraceJudged c) verdict_line verdict_status (statuses_of Verify) status_in bytes status h

  pub judged_not_three : (bytes : List ℕ) (status : ℕ) → JudgesTrace c bytes status → status ≢ 3
  judged_not_three bytes status h = told_not_three (IsTraceJudged c) verdict_line verdict_status not_three bytes status h
