use Rattle.std.proofs.Common.{◌∙◌, ap}
use Rattle.reo_exprs.specs.Typing.{provided}
use Rattle.reo_exprs.proofs.Choices.{choice_kinded}
use Rattle.reo_exprs.proofs.kind.choice_kind.Goals as goal

pub returns : goal.returns
returns c = c.provided.ensures ∙ ap (λ b. provided b c.args.yes) c.may_choose-fits.ensures ∙ choice_kinded c.args.condition.now c.args.yes c.args.no.now c.requires
