use Rattle.std.proofs.Common.{◌≡◌, ◌∙◌, ℕ, List, ap}
use Rattle.reo_net_base.specs.declared.port.Port.{Port}
use Rattle.reo_trace_reader.specs.declared.texts.trace.Trace.{Trace}
use Rattle.reo_command.specs.Claims.{Claimed}
use Rattle.reo_command.specs.ReadSteps.{claimed_in}
use Rattle.reo_command.proofs.top_base.CaseLemmas.{no_memory_cases}
use Rattle.reo_command.proofs.top_base.ToldLemmas.{told_cases, told_exact, told_fair}
use Rattle.reo_top.specs.verdicts.Judged.{IsTraceJudged}
use Rattle.reo_top.specs.verdicts.VerdictTexts.{verdict_status}
use Rattle.reo_top.proofs.verdicts.VerdictLemmas.{verdict_not_nine}
use Rattle.reo_draw_rounds.specs.Tables.{table_text}
use Rattle.reo_draw_command.specs.Tabled.{tabled_text, TablesTrace}
use Rattle.reo_draw_command.proofs.table.write_table.Goals as goal

pub returns-in-Ok-tabled_text-clause-cases : goal.returns-in-Ok-tabled_text-clause-cases
returns-in-Ok-tabled_text-clause-cases g c =
    let claimed : Claimed Trace = claimed_in c.args.claim.work.flat c.args.claim.work.script c.args.claim.trace in
    let table_is : c.in-Ok.table ≡ table_text claimed.work.flat.ports claimed.claim = c.in-Ok.ensures ∙ ap (λ (ports : List Port). table_text ports claimed.claim) c.as_slice.ensures in
    told_cases (IsTraceJudged claimed) (tabled_text (table_text claimed.work.flat.ports claimed.claim)) verdict_status c.in-Ok-verify_trace.verdict _ _ c.as_slice-in-Ok-tabled_text.result.now c.verdict_status.result
    (c.as_slice-in-Ok-tabled_text.ensures ∙ c.in-Ok-tabled_text.ensures ∙ ap (λ (table : List ℕ). tabled_text table c.in-Ok-verify_trace.verdict) table_is) c.verdict_status.ensures c.in-Ok-verify_trace.ensures.exact c.answer.ensures.answers

pub returns-in-Ok-tabled_text-clause-exact : goal.returns-in-Ok-tabled_text-clause-exact
returns-in-Ok-tabled_text-clause-exact g c =
    let claimed : Claimed Trace = claimed_in c.args.claim.work.flat c.args.claim.work.script c.args.claim.trace in
    let table_is : c.in-Ok.table ≡ table_text claimed.work.flat.ports claimed.claim = c.in-Ok.ensures ∙ ap (λ (ports : List Port). table_text ports claimed.claim) c.as_slice.ensures in
    told_exact (IsTraceJudged claimed) (tabled_text (table_text claimed.work.flat.ports claimed.claim)) verdict_status c.in-Ok-verify_trace.verdict _ _ c.as_slice-in-Ok-tabled_text.result.now c.verdict_status.result
    (c.as_slice-in-Ok-tabled_text.ensures ∙ c.in-Ok-tabled_text.ensures ∙ ap (λ (table : List ℕ). tabled_text table c.in-Ok-verify_trace.verdict) table_is) c.verdict_status.ensures c.in-Ok-verify_trace.ensures.only c.answer.ensures.answers

pub returns-in-Ok-tabled_text-clause-fair : goal.returns-in-Ok-tabled_text-clause-fair
returns-in-Ok-tabled_text-clause-fair g c =
    let claimed : Claimed Trace = claimed_in c.args.claim.work.flat c.args.claim.work.script c.args.claim.trace in
    let table_is : c.in-Ok.table ≡ table_text claimed.work.flat.ports claimed.claim = c.in-Ok.ensures ∙ ap (λ (ports : List Port). table_text ports claimed.claim) c.as_slice.ensures in
    told_fair (IsTraceJudged claimed) (tabled_text (table_text claimed.work.flat.ports claimed.claim)) verdict_status c.in-Ok-verify_trace.verdict _ _ c.as_slice-in-Ok-tabled_text.result.now c.verdict_status.result
    (c.as_slice-in-Ok-tabled_text.ensures ∙ c.in-Ok-tabled_text.ensures ∙ ap (λ (table : List ℕ). tabled_text table c.in-Ok-verify_trace.verdict) table_is) c.verdict_status.ensures (verdict_not_nine c.in-Ok-verify_trace.verdict) c.answer.ensures.fair

pub returns-in_default-clause-cases : goal.returns-in_default-clause-cases
returns-in_default-clause-cases g c = no_memory_cases _ _ (TablesTrace (claimed_in c.args.claim.work.flat c.args.claim.work.script c.args.claim.trace)) c.no_memory.ensures.says

pub returns-in_default-verify_trace-clause-cases : goal.returns-in_default-verify_trace-clause-cases
returns-in_default-verify_trace-clause-cases g c = no_memory_cases _ _ (TablesTrace (claimed_in c.args.claim.work.flat c.args.claim.work.script c.args.claim.trace)) c.no_memory-in_default-verify_trace.ensures.says

pub returns-clause-cases : goal.returns-clause-cases
returns-clause-cases g c = no_memory_cases _ _ (TablesTrace (claimed_in c.args.claim.work.flat c.args.claim.work.script c.args.claim.trace)) c.no_memory-in-Err.ensures.says
