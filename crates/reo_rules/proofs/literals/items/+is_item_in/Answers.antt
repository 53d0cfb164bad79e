-- Part by part.
use Rattle.std.proofs.Common.{rules, ◌∙◌, sym, ap, is_some, bytes_eq}
use Rattle.std.specs.List.{position_from}
use Rattle.reo_values.specs.declared.value.Value.TheVariants as values
use Rattle.reo_rules.specs.literals.Items.{item_in}
use Rattle.reo_rules.proofs.literals.ItemLemmas.{item_in-Name, item_in-Pair, item_in_Pair-other, is_some-both, is_some-map}
use Rattle.reo_rules.proofs.literals.items.+is_item_in.Goals as goal

pub returns-in-Name-Sym : goal.returns-in-Name-Sym
returns-in-Name-Sym t c =
    c.is_some.ensures ∙ ap is_some (c.place_of.ensures ∙ (λ i. position_from (bytes_eq (c.as_slice-in-Name-Sym.ensures i)) 0 ((c.as_slice.ensures ∙ c.get.ensures) i)))
    ∙ sym (is_some-map (λ k. values.Sym k) _)
    ∙ ap is_some (sym (item_in-Name c.in-Name-Sym.names c.in-Name-Sym.name) ∙ (λ i. item_in (sym c.in-Name-Sym.is-1 i) (sym c.in-Name-Sym.is-0 i)))

pub returns-then-is_item_in : goal.returns-then-is_item_in
returns-then-is_item_in t c =
    rw (c.in-Pair-Pair.is-0, c.in-Pair-Pair.is-1, item_in-Pair c.in-Pair-Pair.x c.in-Pair-Pair.y, is_some-both, ← c.get-x.ensures, ← c.get-y.ensures, ← c.is_item_in.ensures, c.if-is_item_in.true)
    c.is_item_in-then-is_item_in.ensures

pub returns-else-is_item_in : goal.returns-else-is_item_in
returns-else-is_item_in t c =
    rw (c.in-Pair-Pair.is-0, c.in-Pair-Pair.is-1, item_in-Pair c.in-Pair-Pair.x c.in-Pair-Pair.y, is_some-both, ← c.get-x.ensures, ← c.get-y.ensures, ← c.is_item_in.ensures, c.if-is_item_in.false)
    (search rules)

pub returns-in_default-6 : goal.returns-in_default-6
returns-in_default-6 t c = rw (c.in_default.is-0, item_in_Pair-other _ _ c.in_default.not-Pair-1) (search rules)
