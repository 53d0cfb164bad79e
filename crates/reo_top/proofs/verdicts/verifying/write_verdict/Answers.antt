use Rattle.std.proofs.Common.{◌∙◌}
use Rattle.reo_trace_reader.specs.declared.texts.trace.Trace.{Trace}
use Rattle.reo_command.specs.Claims.{Claimed}
use Rattle.reo_command.specs.ReadSteps.{claimed_in}
use Rattle.reo_command.proofs.top_base.CaseLemmas.{no_memory_cases}
use Rattle.reo_command.proofs.top_base.ToldLemmas.{told_cases, told_exact, told_fair}
use Rattle.reo_top.specs.verdicts.Judged.{IsTraceJudged, JudgesTrace}
use Rattle.reo_top.specs.verdicts.VerdictTexts.{verdict_line, verdict_status}
use Rattle.reo_top.proofs.verdicts.VerdictLemmas.{verdict_not_nine}
use Rattle.reo_top.proofs.verdicts.verifying.write_verdict.Goals as goal

pub returns-in_default-clause-cases : goal.returns-in_default-clause-cases
returns-in_default-clause-cases g c = no_memory_cases _ _ (JudgesTrace (claimed_in c.args.claim.work.flat c.args.claim.work.script c.args.claim.trace)) c.no_memory.ensures.says

pub returns-in-Ok-verdict_line-clause-cases : goal.returns-in-Ok-verdict_line-clause-cases
returns-in-Ok-verdict_line-clause-cases g c =
    let claimed : Claimed Trace = claimed_in c.args.claim.work.flat c.args.claim.work.script c.args.claim.trace in
    told_cases (IsTraceJudged claimed) verdict_line verdict_status c.in-Ok.verdict _ _ c.as_slice.result.now c.verdict_status.result (c.as_slice.ensures ∙ c.in-Ok-verdict_line.ensures) c.verdict_status.ensures c.in-Ok.ensures.exact c.answer.ensures.answers

pub returns-in-Ok-verdict_line-clause-exact : goal.returns-in-Ok-verdict_line-clause-exact
returns-in-Ok-verdict_line-clause-exact g c =
    let claimed : Claimed Trace = claimed_in c.args.claim.work.flat c.args.claim.work.script c.args.claim.trace in
    told_exact (IsTraceJudged claimed) verdict_line verdict_status c.in-Ok.verdict _ _ c.as_slice.result.now c.verdict_status.result (c.as_slice.ensures ∙ c.in-Ok-verdict_line.ensures) c.verdict_status.ensures c.in-Ok.ensures.only c.answer.ensures.answers

pub returns-in-Ok-verdict_line-clause-fair : goal.returns-in-Ok-verdict_line-clause-fair
returns-in-Ok-verdict_line-clause-fair g c =
    let claimed : Claimed Trace = claimed_in c.args.claim.work.flat c.args.claim.work.script c.args.claim.trace in
    told_fair (IsTraceJudged claimed) verdict_line verdict_status c.in-Ok.verdict _ _ c.as_slice.result.now c.verdict_status.result (c.as_slice.ensures ∙ c.in-Ok-verdict_line.ensures) c.verdict_status.ensures (verdict_not_nine c.in-Ok.verdict) c.answer.ensures.fair

pub returns-clause-cases : goal.returns-clause-cases
returns-clause-cases g c = no_memory_cases _ _ (JudgesTrace (claimed_in c.args.claim.work.flat c.args.claim.work.script c.args.claim.trace)) c.no_memory-in-Err.ensures.says
