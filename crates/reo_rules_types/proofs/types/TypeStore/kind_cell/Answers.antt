-- The kind of a pair is the pair of the kinds.
use Rattle.std.proofs.Common.{◌∙◌, ap, sym}
use Rattle.reo_values.specs.declared.kindred.Kindred.TheVariants as kinds
use Rattle.reo_values.specs.declared.kindred.Twins.{Twins}
use Rattle.reo_exprs.specs.Kinds.{kind_of}
use Rattle.reo_exprs.proofs.Twinned.{kind_of-Pair}
use Rattle.reo_rules_types.specs.Cells.{type_at, kindred_of}
use Rattle.reo_rules_types.proofs.Kept.{at_told, at_within}
use Rattle.reo_rules_types.proofs.types.TypeStore.kind_cell.Goals as goal

pub returns-in-Pair : goal.returns-in-Pair
returns-in-Pair c =
    let types = c.args.self.now in
    let twins : Twins = record { left = type_at types c.in-Pair.left; right = type_at types c.in-Pair.right } in (
      (at_within types c.kind.result _ c.kind.ensures, at_within types c.kind-in-Pair.result _ c.kind-in-Pair.ensures),
      (λ i. kinds.Pair (record { left = at_told types c.kind.result _ c.kind.ensures i; right = at_told types c.kind-in-Pair.result _ c.kind-in-Pair.ensures i }))
          ∙ sym (kind_of-Pair twins) ∙ ap (λ d. kind_of (kindred_of types d)) (sym c.in-Pair.is),
    )
