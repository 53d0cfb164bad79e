use Rattle.reo_exprs.proofs.Choices.{choice_typed}
use Rattle.reo_exprs.proofs.typing.choice_type.Goals as goal

pub returns-in_ok-join : goal.returns-in_ok-join
returns-in_ok-join c =
    choice_typed c.args.condition.now c.args.yes.now c.args.no.now c.in_ok-join.field-0 c.if-may_choose.ensures c.requires.left c.requires.right c.in_ok-join.ensures
