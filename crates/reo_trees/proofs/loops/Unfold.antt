-- Loops in one another, by the list of a loop's items.
use Rattle.std.proofs.Common.{◌≡◌, ◌∙◌, ℕ, suc, ◌&&◌, List, refl, ap}
use mathlib.Core.Former.{Count}
use Rattle.reo_trees.specs.declared.indexes.Index.{Index}
use Rattle.reo_trees.specs.declared.items_two.ItemTwo.{ItemTwo}
use Rattle.reo_trees.specs.declared.items_two.FormTwo.{FormTwo, Loop, Loop', Row_of-ItemTwo, end_of-ItemTwo, more_of-ItemTwo, items-the_row-ItemTwo, items_hidden-the_row-ItemTwo-0}
use Rattle.reo_trees.specs.loops.Few.{few_loops, few_in_row, few_in_items}

abbrev row_of : FormTwo → (n : Count) × Row_of-ItemTwo n
row_of (Loop' variable low high m row) = (_, row)
row_of f = (_, end_of-ItemTwo)

few-row : (n : ℕ) (m : _) (row : Row_of-ItemTwo m) → few_in_row n row ≡ few_in_items n (items-the_row-ItemTwo m row)
few-row n m end_of-ItemTwo = refl
few-row n m (more_of-ItemTwo line f rest) = ap (λ b. few_loops n f && b) (few-row n _ rest)

pub few-loop : (n : ℕ) (variable : List ℕ) (low high : Index) (items : List ItemTwo) → few_loops (suc n) (Loop variable low high items) ≡ few_in_items n items
few-loop n variable low high items =
    let row = row_of (Loop variable low high items) in
    few-row n row.0 row.1 ∙ ap (few_in_items n) (items_hidden-the_row-ItemTwo-0 items)
