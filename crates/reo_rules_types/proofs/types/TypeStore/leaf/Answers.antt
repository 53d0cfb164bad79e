-- The leaf of the table.
use Rattle.std.proofs.Common.{◌∙◌, sym, ap}
use Rattle.reo_rules_types.specs.Cells.{leaf, type_at}
use Rattle.reo_rules_types.proofs.Kept.{at_told}
use Rattle.reo_rules_types.proofs.types.TypeStore.leaf.Goals as goal

pub returns : goal.returns
returns c =
    let is = c.self.invariant.each c.args.number c.in-Some.field-0-0.now c.in-Some.facts.now (sym c.in-Some.ensures.entry) in
    is.leaf ∙ ap leaf (sym (at_told _ c.args.number _ is.is)) ∙ ap (λ types. leaf (type_at types c.args.number)) c.self.view_is
