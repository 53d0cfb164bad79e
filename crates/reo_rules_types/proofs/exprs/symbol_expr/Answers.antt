-- The place of the symbol among the names of the type.
use Rattle.std.proofs.Common.{◌∙◌, Some, sym, ap}
use Rattle.std.specs.Prelude.{option_map, bytes_eq}
use Rattle.std.specs.List.{position_from}
use Rattle.reo_rules_types.proofs.Sequences.{no_value}
use Rattle.reo_exprs.specs.declared.expr.Expr.TheVariants as exprs
use Rattle.reo_rules.specs.Terms.{symbol_in}
use Rattle.reo_rules_types.specs.Cells.{type_at}
use Rattle.reo_rules_types.proofs.Leaves.{same_symbol}
use Rattle.reo_rules_types.proofs.exprs.symbol_expr.Goals as goal

pub returns-in_default-place_of : goal.returns-in_default-place_of
returns-in_default-place_of c =
    let name = c.args.name.now in
    let kind = ap (λ k. symbol_in k name) (sym c.leaf.ensures ∙ c.in-Sym.is) in
    let place = c.place_of.ensures ∙ ap (position_from (bytes_eq name) 0) (c.as_slice.ensures ∙ c.get.ensures) in
    sym (sym (same_symbol (type_at c.args.types.now c.args.number) name) ∙ kind ∙ ap (option_map (λ k. exprs.Sym c.in-Sym.names k)) (sym place ∙ no_value c.place_of.result c.in_default-place_of.not-Some))

pub returns : goal.returns
returns c =
    let name = c.args.name.now in
    let kind = ap (λ k. symbol_in k name) (sym c.leaf.ensures ∙ c.in-Sym.is) in
    let place = c.place_of.ensures ∙ ap (position_from (bytes_eq name) 0) (c.as_slice.ensures ∙ c.get.ensures) in
    ap (λ ns. Some (exprs.Sym ns c.in-Some.place)) c.in_ok-share.ensures
    ∙ sym (sym (same_symbol (type_at c.args.types.now c.args.number) name) ∙ kind ∙ ap (option_map (λ k. exprs.Sym c.in-Sym.names k)) (sym place ∙ c.in-Some.is))
