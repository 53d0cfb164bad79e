use Rattle.std.proofs.Common.{sym}
use Rattle.reo_top_tests.proofs.SureLemmas.{never_three}
use Rattle.reo_top_tests.proofs.sure.answer_surely.Goals as goal

pub returns-clause-fetched : goal.returns-clause-fetched
returns-clause-fetched c = λ three.
    let said = c.reo.ensures.answer in
    never_three _ said.events.failed said.answered.answers _ 0 0 said.answered.fetched.few (said.answered.blames.only three) (λ failed. (said.taken.fault failed).1) (sym said.answered.fetched.failed)
