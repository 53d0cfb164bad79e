use Rattle.std.proofs.Common.{◌+◌, ℕ, Some, refl, rules}
use Rattle.reo_live.specs.declared.base.answer.Answer.TheVariants.{Ended}
use Rattle.reo_live.specs.talk.Offers.{refusal_if}
use Rattle.reo_live.proofs.talk.judging.happen.Goals as goal

pub returns-in-Write-clause-does : goal.returns-in-Write-clause-does
returns-in-Write-clause-does g c = (refusal_if (c.args.lines + 1) c.make_offer-cause.result, c.refusal_if.ensures c.args.ports.now.list, search rules)

pub returns-in-Take-clause-does : goal.returns-in-Take-clause-does
returns-in-Take-clause-does g c = (refusal_if (c.args.lines + 1) c.make_offer-cause-in-Take.result, c.refusal_if-in-Take.ensures c.args.ports.now.list, search rules)

pub returns-in-Withdraw-clause-does : goal.returns-in-Withdraw-clause-does
returns-in-Withdraw-clause-does g c = (refusal_if (c.args.lines + 1) c.cause_unless-cause.result, c.refusal_if-in-Withdraw.ensures c.args.ports.now.list, search rules)

pub returns-in_ok-answer_round-in-Round-clause-does : goal.returns-in_ok-answer_round-in-Round-clause-does
returns-in_ok-answer_round-in-Round-clause-does g c =
    let is = c.in_ok-answer_round-in-Round.ensures.does c.args.lines in
    (Some is.0, (is.0, refl, is.1), (rw c.in-Round.is is.2))

pub returns-in-End-clause-does : goal.returns-in-End-clause-does
returns-in-End-clause-does g c = (Some (Ended c.rounds-rounds.result), (Ended c.rounds-rounds.result, refl, refl), search rules)
