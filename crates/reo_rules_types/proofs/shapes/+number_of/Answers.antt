-- A pair behind its parts; a name has its number.
use Rattle.std.proofs.Common.{◌≡◌, ◌∙◌, Some, slice_get, sym, ap, subst}
use Rattle.std.specs.Prelude.{IfOk}
use Rattle.reo_trees.specs.declared.types.Shape.TheVariants as shapes
use Rattle.reo_rules.specs.Types.{resolved}
use Rattle.reo_rules_types.specs.Scoped.{typed, number_named}
use Rattle.reo_rules_types.proofs.Kept.{at_within, kept_below}
use Rattle.reo_rules_types.proofs.Scoped.{known_kept, named_there}
use Rattle.reo_rules_types.proofs.Shaped.{pair_resolved}
use Rattle.reo_rules_types.proofs.Sizes.{pair_smaller}
use Rattle.reo_rules_types.proofs.shapes.+number_of.Goals as goal

pub number_of-requires : goal.number_of-requires
number_of-requires t c =
    let is = c.in-Pair.is ∙ ap shapes.Pair (sym c.get-pair.ensures) in
    ((pair_smaller c.args.shape.now c.get-pair.result.now t is c.decreases).0, c.requires)

pub number_of-requires-in-Pair : goal.number_of-requires-in-Pair
number_of-requires-in-Pair t c =
    let is = c.in-Pair.is ∙ ap shapes.Pair (sym c.get-pair.ensures) in (
      (pair_smaller c.args.shape.now c.get-pair.result.now t is c.decreases).1,
      known_kept c.args.types.now c.number_of.new.types c.in_ok-left-in-Pair.ensures.keeps c.args.declared.now c.requires,
    )

pub put-requires-in-Pair : goal.put-requires-in-Pair
put-requires-in-Pair t c =
    let types1 = c.number_of.new.types in
    let types2 = c.number_of-in-Pair.new.types in (
      kept_below types1 types2 c.in_ok-right-in-Pair.ensures.keeps c.in_ok-left-in-Pair.left (at_within types1 c.in_ok-left-in-Pair.left _ c.in_ok-left-in-Pair.ensures.number),
      at_within types2 c.in_ok-right-in-Pair.right _ c.in_ok-right-in-Pair.ensures.number,
    )

pub returns-in-Named-clause-number : goal.returns-in-Named-clause-number
returns-in-Named-clause-number t c =
    let types = c.args.types.now in
    let es = c.args.declared.now in
    ap (slice_get types) (c.find.ensures ∙ ap (number_named es) c.as_slice-in-Named.ensures) ∙ named_there types c.in-Named.name es c.requires
    ∙ ap (λ s. Some (resolved (typed types es) s)) (sym c.in-Named.is)

pub returns-in_ok-right-in-Pair-clause-number : goal.returns-in_ok-right-in-Pair-clause-number
returns-in_ok-right-in-Pair-clause-number t c =
    subst (λ k. IfOk c.put-in-Pair.result (λ n. slice_get c.put-in-Pair.new.self n ≡ Some k))
    (pair_resolved c.args.types.now c.number_of.new.types c.number_of-in-Pair.new.types c.args.declared.now c.requires c.in_ok-left-in-Pair.ensures.keeps c.in_ok-right-in-Pair.ensures.keeps
    c.get-pair.result.now c.in_ok-left-in-Pair.left c.in_ok-right-in-Pair.right c.in_ok-left-in-Pair.ensures.number c.in_ok-right-in-Pair.ensures.number
    ∙ ap (resolved (typed c.args.types.now c.args.declared.now)) (sym (c.in-Pair.is ∙ ap shapes.Pair (sym c.get-pair.ensures))))
    c.put-in-Pair.ensures.number
