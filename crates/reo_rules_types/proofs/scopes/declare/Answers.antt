-- The name stands behind the others, with the number of its type.
use Rattle.std.proofs.Common.{◌∙◌, [], ◌∷◌, ◌++◌, sym, ap, subst}
use Rattle.reo_rules.specs.Types.{resolved}
use Rattle.reo_rules_types.specs.Scoped.{typed, AreKnown}
use Rattle.reo_rules_types.proofs.Kept.{at_within}
use Rattle.reo_rules_types.proofs.Scoped.{known_kept, known_push, typed_kept, typed_push}
use Rattle.reo_rules_types.proofs.scopes.declare.Goals as goal

pub returns-clause-known : goal.returns-clause-known
returns-clause-known c =
    let types = c.number_of.new.types in
    subst (AreKnown types) (sym c.in_ok-add.ensures)
    (known_push types c.args.scope.now (c.as_slice.result.now, c.in_ok-number.number) (known_kept c.args.types.now types c.in_ok-number.ensures.keeps c.args.scope.now c.requires.scope)
    (at_within types c.in_ok-number.number _ c.in_ok-number.ensures.number))

pub returns-clause-scope : goal.returns-clause-scope
returns-clause-scope c =
    let types = c.number_of.new.types in
    let kind = resolved (typed c.args.types.now c.args.declared.now) c.args.shape.now in
    ap (typed types) c.in_ok-add.ensures ∙ typed_push types c.args.scope.now c.as_slice.result.now c.in_ok-number.number kind c.in_ok-number.ensures.number
    ∙ (λ i. typed_kept c.args.types.now types c.in_ok-number.ensures.keeps c.args.scope.now c.requires.scope i ++ record { name = c.as_slice.ensures i; kindred = kind } ∷ [])
