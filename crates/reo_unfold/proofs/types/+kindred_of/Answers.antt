-- Part by part.
use Rattle.std.proofs.Common.{◌∙◌, sym, ap, subst, take}
use Rattle.reo_values.specs.declared.kindred.Kindred.TheVariants as kinds
use Rattle.reo_trees.specs.declared.types.Shape.TheVariants as shapes
use Rattle.reo_rules.specs.literals.Items.{HasFewNames}
use Rattle.reo_rules.proofs.Parts.{resolved-Pair}
use Rattle.reo_unfold.proofs.TypeLemmas.{few_shapes, few_pair}
use Rattle.reo_unfold.proofs.types.+kindred_of.Goals as goal

pub returns-in_ok-new-in-Pair-clause-is : goal.returns-in_ok-new-in-Pair-clause-is
returns-in_ok-new-in-Pair-clause-is t c ts are =
    rw (c.in-Pair.is, resolved-Pair (take c.args.known ts) c.in-Pair.pair, ← c.get-pair.ensures)
    (ap kinds.Pair (c.in_ok-new-in-Pair.ensures ∙ (λ i. record { left = c.in_ok-left-in-Pair.ensures.is ts are i; right = c.in_ok-right-in-Pair.ensures.is ts are i })))

pub returns-in_ok-new-in-Pair-clause-few : goal.returns-in_ok-new-in-Pair-clause-few
returns-in_ok-new-in-Pair-clause-few t c all few =
    let shapes = few_shapes c.args.shape.now c.get-pair.result.now (c.in-Pair.is ∙ ap shapes.Pair (sym c.get-pair.ensures)) few in
    subst (λ q. HasFewNames (kinds.Pair q)) (sym c.in_ok-new-in-Pair.ensures)
    (few_pair c.in_ok-left-in-Pair.left c.in_ok-right-in-Pair.right (c.in_ok-left-in-Pair.ensures.few all shapes.0) (c.in_ok-right-in-Pair.ensures.few all shapes.1))
