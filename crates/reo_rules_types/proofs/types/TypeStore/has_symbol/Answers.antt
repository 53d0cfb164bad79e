-- The symbols of the table.
use Rattle.std.proofs.Common.{◌∙◌, sym, ap}
use Rattle.std.specs.Prelude.{bytes_eq, is_some}
use Rattle.reo_rules_types.specs.Cells.{is_symbol, type_at}
use Rattle.reo_rules_types.proofs.Kept.{at_told}
use Rattle.reo_rules_types.proofs.Places.{position_some}
use Rattle.reo_rules_types.proofs.types.TypeStore.has_symbol.Goals as goal

pub returns : goal.returns
returns c =
    let name = c.args.name.now in
    let is = c.self.invariant.each c.args.number c.in-Some.field-0-0.now c.in-Some.facts.now (sym c.in-Some.ensures.entry) in
    c.is_some.ensures ∙ ap is_some c.find.ensures ∙ position_some (bytes_eq name) c.in-Some.facts.now.symbols
    ∙ is.symbols name ∙ ap (λ k. is_symbol k name) (sym (at_told _ c.args.number _ is.is)) ∙ ap (λ types. is_symbol (type_at types c.args.number) name) c.self.view_is
