use Rattle.std.proofs.Common.{Some, refl, rules}
use Rattle.reo_live.specs.declared.base.answer.Answer.TheVariants.{Ended}
use Rattle.reo_live.proofs.talk.closing.close.Goals as goal

pub returns-in-Ok-clause-closed : goal.returns-in-Ok-clause-closed
returns-in-Ok-clause-closed g c =
    let is = c.respond.ensures.responds (Some (Ended c.args.rounds)) (Ended c.args.rounds, refl, refl) in
    search rules

pub returns-in-Err-clause-closed : goal.returns-in-Err-clause-closed
returns-in-Err-clause-closed g c =
    let is = c.respond.ensures.responds (Some (Ended c.args.rounds)) (Ended c.args.rounds, refl, refl) in
    search rules
