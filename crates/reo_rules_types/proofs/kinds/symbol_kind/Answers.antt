-- The kind of a symbol is its type.
use Rattle.std.proofs.Common.{◌∙◌, ◌<◌, length, sym, ap, subst, Some}
use Rattle.reo_rules_types.specs.Cells.{type_at, is_symbol}
use Rattle.reo_rules_types.specs.Scoped.{number_named}
use Rattle.reo_rules_types.proofs.Scoped.{named_is, named_below}
use Rattle.reo_rules_types.proofs.Formed.{symbol_kinded, symbol_unkinded}
use Rattle.reo_rules_types.proofs.kinds.symbol_kind.Goals as goal

pub has_symbol-requires : goal.has_symbol-requires
has_symbol-requires c =
    let types = c.args.types.now in
    subst (λ n. n < length types) (sym (c.find-number.ensures ∙ ap (number_named c.args.declared.now) c.as_slice.ensures)) (named_below types c.args.name.now c.args.declared.now c.requires)

pub returns-then-has_symbol : goal.returns-then-has_symbol
returns-then-has_symbol c of =
    let types = c.args.types.now in
    let es = c.args.declared.now in
    let name = c.args.name.now in
    let number = c.find-number.ensures ∙ ap (number_named es) c.as_slice.ensures in
    let is = ap (type_at types) number ∙ sym (named_is types name es c.requires) in (
      subst (λ n. n < length types) (sym number) (named_below types name es c.requires),
      symbol_kinded _ name c.args.symbol.now of ((λ i. is_symbol (sym is i) (sym c.as_slice-2.ensures i)) ∙ sym c.if-has_symbol.ensures) ∙ ap Some (sym is),
    )

pub returns-else-has_symbol : goal.returns-else-has_symbol
returns-else-has_symbol c of =
    let types = c.args.types.now in
    let es = c.args.declared.now in
    let name = c.args.name.now in
    let number = c.find-number.ensures ∙ ap (number_named es) c.as_slice.ensures in
    let is = ap (type_at types) number ∙ sym (named_is types name es c.requires) in
    symbol_unkinded _ name c.args.symbol.now of ((λ i. is_symbol (sym is i) (sym c.as_slice-2.ensures i)) ∙ sym c.if-has_symbol.ensures)
