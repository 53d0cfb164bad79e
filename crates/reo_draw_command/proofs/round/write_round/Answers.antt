use Rattle.std.proofs.Common.{◌∙◌}
use Rattle.reo_trace_reader.specs.declared.texts.trace.Trace.{Trace}
use Rattle.reo_command.specs.Claims.{Claimed}
use Rattle.reo_command.specs.ReadSteps.{claimed_in}
use Rattle.reo_command.proofs.top_base.CaseLemmas.{no_memory_cases}
use Rattle.reo_command.proofs.top_base.ToldLemmas.{told_cases, told_exact, told_fair}
use Rattle.reo_draw_command.specs.Rounds.{IsShownFor, DrawsRound, shown_text, shown_status}
use Rattle.reo_draw_command.proofs.RoundLemmas.{shown_not_nine, only_for}
use Rattle.reo_draw_command.proofs.round.write_round.Goals as goal

pub returns-in_default-clause-cases : goal.returns-in_default-clause-cases
returns-in_default-clause-cases g c = no_memory_cases _ _ (DrawsRound c.args.word.now (claimed_in c.args.claim.work.flat c.args.claim.work.script c.args.claim.trace)) c.no_memory.ensures.says

pub returns-in_default-show_round-clause-cases : goal.returns-in_default-show_round-clause-cases
returns-in_default-show_round-clause-cases g c = no_memory_cases _ _ (DrawsRound c.args.word.now (claimed_in c.args.claim.work.flat c.args.claim.work.script c.args.claim.trace)) c.no_memory-in_default-show_round.ensures.says

pub returns-in-Ok-shown_text-clause-cases : goal.returns-in-Ok-shown_text-clause-cases
returns-in-Ok-shown_text-clause-cases g c =
    let claimed : Claimed Trace = claimed_in c.args.claim.work.flat c.args.claim.work.script c.args.claim.trace in
    told_cases (IsShownFor c.args.word.now claimed) shown_text shown_status c.in-Ok-show_round.shown _ _ c.as_slice.result.now c.shown_status-status.result (c.as_slice.ensures ∙ c.in-Ok-shown_text.ensures) c.shown_status-status.ensures
    (c.in-Ok.number, c.in-Ok.ensures, c.in-Ok-show_round.ensures.exact) c.answer.ensures.answers

pub returns-in-Ok-shown_text-clause-exact : goal.returns-in-Ok-shown_text-clause-exact
returns-in-Ok-shown_text-clause-exact g c =
    let claimed : Claimed Trace = claimed_in c.args.claim.work.flat c.args.claim.work.script c.args.claim.trace in
    told_exact (IsShownFor c.args.word.now claimed) shown_text shown_status c.in-Ok-show_round.shown _ _ c.as_slice.result.now c.shown_status-status.result (c.as_slice.ensures ∙ c.in-Ok-shown_text.ensures) c.shown_status-status.ensures
    (only_for c.args.word.now claimed c.in-Ok.number c.in-Ok.ensures c.in-Ok-show_round.shown c.in-Ok-show_round.ensures.only) c.answer.ensures.answers

pub returns-in-Ok-shown_text-clause-fair : goal.returns-in-Ok-shown_text-clause-fair
returns-in-Ok-shown_text-clause-fair g c =
    let claimed : Claimed Trace = claimed_in c.args.claim.work.flat c.args.claim.work.script c.args.claim.trace in
    told_fair (IsShownFor c.args.word.now claimed) shown_text shown_status c.in-Ok-show_round.shown _ _ c.as_slice.result.now c.shown_status-status.result (c.as_slice.ensures ∙ c.in-Ok-shown_text.ensures) c.shown_status-status.ensures
    (shown_not_nine c.in-Ok-show_round.shown) c.answer.ensures.fair

pub returns-clause-cases : goal.returns-clause-cases
returns-clause-cases g c = no_memory_cases _ _ (DrawsRound c.args.word.now (claimed_in c.args.claim.work.flat c.args.claim.work.script c.args.claim.trace)) c.no_memory-in-Err.ensures.says
