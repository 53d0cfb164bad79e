use Rattle.std.proofs.Common.{◌∙◌, ap}
use Rattle.reo_exprs.specs.Valued.{same_value}
use Rattle.reo_exprs.proofs.Same.{tells_same}
use Rattle.reo_exprs.proofs.value.value_is.Goals as goal

pub returns : goal.returns
returns c = tells_same c.is_item.result _ c.args.value.now (c.is_item.ensures ∙ ap (λ v. same_value v c.args.value.now) c.view_of.ensures.value)
