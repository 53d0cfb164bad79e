-- The kind of the table.
use Rattle.std.proofs.Common.{◌≡◌, ◌∙◌, Some, slice_get, sym, ap, subst}
use Rattle.reo_exprs.specs.Kinds.{kind_of}
use Rattle.reo_rules_types.specs.Cells.{type_at}
use Rattle.reo_rules_types.proofs.Kept.{at_told}
use Rattle.reo_rules_types.proofs.types.TypeStore.kind.Goals as goal

pub returns : goal.returns
returns c =
    let is = c.self.invariant.each c.args.number c.in-Some.field-0-0.now c.in-Some.facts.now (sym c.in-Some.ensures.entry) in
    subst (λ types. slice_get types c.in-Some.facts.now.kind ≡ Some (kind_of (type_at types c.args.number))) c.self.view_is
    (is.kind ∙ ap (λ k. Some (kind_of k)) (sym (at_told _ c.args.number _ is.is)))
