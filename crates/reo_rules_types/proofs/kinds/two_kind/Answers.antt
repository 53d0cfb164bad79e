-- A pair of kinds is a kind.
use Rattle.std.proofs.Common.{◌∙◌, ap, sym, subst, Some, None, refl}
use Rattle.std.specs.Prelude.{IfOk, if◌then◌else◌}
use Rattle.reo_values.specs.declared.kindred.Kindred.TheVariants as kinds
use Rattle.reo_rules_types.specs.Kinded.{IsMade}
use Rattle.reo_rules_types.proofs.OfKinds.{truth_kinded}
use Rattle.reo_values.specs.declared.kindred.Twins.{Twins}
use Rattle.reo_exprs.proofs.Choices.{pair_kinded}
use Rattle.reo_rules_types.specs.Cells.{type_at}
use Rattle.reo_rules_types.proofs.Kept.{at_told, at_within}
use Rattle.reo_rules_types.proofs.kinds.two_kind.Goals as goal

pub returns-in_ok-put-in-Pair-clause-kind : goal.returns-in_ok-put-in-Pair-clause-kind
returns-in_ok-put-in-Pair-clause-kind c =
    let types = c.put.new.self in
    let n = c.in_ok-put-in-Pair.field-0 in
    let x = type_at c.args.types.now c.args.x in
    let y = type_at c.args.types.now c.args.y in
    let twins : Twins = record { left = x; right = y } in (
      at_within types n _ c.in_ok-put-in-Pair.ensures.number,
      sym (pair_kinded c.args.op x y twins c.in-Pair.is refl c.requires.left_bare c.requires.right_bare) ∙ ap Some (sym (at_told types n _ c.in_ok-put-in-Pair.ensures.number)),
    )

pub returns-in-Or-clause-kind : goal.returns-in-Or-clause-kind
returns-in-Or-clause-kind c =
    let x = type_at c.args.types.now c.args.x in
    let y = type_at c.args.types.now c.args.y in
    subst (λ k. IfOk c.truth.result (λ made. IsMade c.truth.new.types made k))
    (ap (λ b. if b then Some kinds.Bool else None) c.fits_test-fits.ensures ∙ truth_kinded c.args.op x y c.requires.left_bare c.requires.right_bare c.in-Or.is) c.truth.ensures.kind
