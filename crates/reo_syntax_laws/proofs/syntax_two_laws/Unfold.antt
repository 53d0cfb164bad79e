-- A loop, lines aside, by the list of its items.
use Rattle.std.proofs.Common.{◌≡◌, ◌∙◌, ℕ, List, ◌∷◌, map, refl, ap}
use mathlib.Core.Former.{Count}
use Rattle.reo_trees.specs.declared.indexes.Index.{Index}
use Rattle.reo_trees.specs.declared.items_two.ItemTwo.{ItemTwo}
use Rattle.reo_trees.specs.declared.items_two.FormTwo.{FormTwo, Loop, Loop', Row_of-ItemTwo, end_of-ItemTwo, more_of-ItemTwo, items-the_row-ItemTwo, items_hidden-the_row-ItemTwo-0}
use Rattle.reo_syntax_laws.specs.syntax_two_laws.Unlined.{bare_form, bare_row, bare_item}

abbrev row_of : FormTwo → (n : Count) × Row_of-ItemTwo n
row_of (Loop' variable low high m row) = (_, row)
row_of f = (_, end_of-ItemTwo)

bare-row : (m : _) (row : Row_of-ItemTwo m) → bare_row row ≡ map bare_item (items-the_row-ItemTwo m row)
bare-row m end_of-ItemTwo = refl
bare-row m (more_of-ItemTwo line f rest) = ap (λ l. bare_item (record { line = line; form = f }) ∷ l) (bare-row _ rest)

pub bare-loop : (variable : List ℕ) (low high : Index) (items : List ItemTwo) → bare_form (Loop variable low high items) ≡ Loop variable low high (map bare_item items)
bare-loop variable low high items =
    let row = row_of (Loop variable low high items) in
    ap (λ l. Loop variable low high l) (bare-row row.0 row.1 ∙ ap (map bare_item) (items_hidden-the_row-ItemTwo-0 items))
