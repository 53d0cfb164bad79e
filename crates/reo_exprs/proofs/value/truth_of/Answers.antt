use Rattle.std.proofs.Common.{◌∙◌, ap, sym}
use Rattle.reo_values.specs.declared.value.Value.TheVariants as values
use Rattle.reo_exprs.specs.Valued.{truth}
use Rattle.reo_exprs.proofs.Seen.{truth_told}
use Rattle.reo_exprs.proofs.value.truth_of.Goals as goal

pub returns : goal.returns
returns c =
    truth_told c.args.expr.now c.args.of.now c.args.item.now c.requires.typed c.requires.member
    ∙ ap (λ v. values.Bool (truth v)) (sym c.view_of.ensures.value) ∙ ap values.Bool (sym c.truth.ensures)
