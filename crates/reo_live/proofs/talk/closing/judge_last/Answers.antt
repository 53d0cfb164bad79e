use Rattle.std.proofs.Common.{◌+◌, Some, refl, rules}
use Rattle.reo_live.specs.declared.base.answer.Answer.TheVariants.{Refused}
use Rattle.reo_live.specs.declared.base.fault.LineRefusal.TheVariants.{Long}
use Rattle.reo_live.proofs.talk.closing.judge_last.Goals as goal

pub returns-in-None-clause-judges : goal.returns-in-None-clause-judges
returns-in-None-clause-judges g c =
    let answer = Refused (c.args.lines + 1) Long in
    (Some answer, (answer, refl, rw c.too_long.ensures refl), search rules)
