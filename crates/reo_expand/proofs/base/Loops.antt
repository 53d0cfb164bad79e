-- What a loop stands for, and its steps, by the list of its items.
use Rattle.std.proofs.Common.{◌≡◌, ◌∙◌, ℕ, ℤ, List, ◌∷◌, ◌++◌, flat_map, refl, ap}
use mathlib.Core.Former.{Count}
use Rattle.reo_trees.specs.declared.indexes.Index.{Index}
use Rattle.reo_trees.specs.declared.items_two.ItemTwo.{ItemTwo}
use Rattle.reo_trees.specs.declared.items_two.FormTwo.{FormTwo, Loop, Loop', Row_of-ItemTwo, end_of-ItemTwo, more_of-ItemTwo, items-the_row-ItemTwo, items_hidden-the_row-ItemTwo-0}
use Rattle.reo_trees.specs.declared.programs_two.ConnectorTwo.{ConnectorTwo}
use Rattle.reo_expand.specs.declared.base.bound.Bound.{Bound}
use Rattle.reo_expand.specs.base.Indexed.{value_of, turns}
use Rattle.reo_expand.specs.base.Expansion.{with_bound, items_of, items_of_row, items_in}
use Rattle.reo_expand.specs.base.Steps.{steps_of, steps_of_row, steps_in, unbound_steps}
use Rattle.reo_expand.specs.base.Steps.Step.{counted}

abbrev row_of : FormTwo → (n : Count) × Row_of-ItemTwo n
row_of (Loop' variable low high m row) = (_, row)
row_of f = (_, end_of-ItemTwo)

items_row : (bound : List Bound) (n : _) (row : Row_of-ItemTwo n) → items_of_row bound row ≡ items_in bound (items-the_row-ItemTwo n row)
items_row bound n end_of-ItemTwo = refl
items_row bound n (more_of-ItemTwo line f rest) = ap (λ is. items_of bound line f ++ is) (items_row bound _ rest)

steps_row : (before : List ConnectorTwo) (bound : List Bound) (n : _) (row : Row_of-ItemTwo n) → steps_of_row before bound row ≡ steps_in before bound (items-the_row-ItemTwo n row)
steps_row before bound n end_of-ItemTwo = refl
steps_row before bound n (more_of-ItemTwo line f rest) = ap (λ s. steps_of before bound line f ++ s) (steps_row before bound _ rest)

module _ (bound : List Bound) (line : ℕ) (variable : List ℕ) (low high : Index) (items : List ItemTwo) where
  abbrev the_turns : List ℤ
  the_turns = turns (value_of bound low) (value_of bound high)

  pub items_loop : items_of bound line (Loop variable low high items) ≡ flat_map (λ z. items_in (with_bound bound variable z) items) the_turns
  items_loop =
      let row = row_of (Loop variable low high items) in
      let each : (z : ℤ) → items_of_row (with_bound bound variable z) row.1 ≡ items_in (with_bound bound variable z) items
      = λ z. items_row (with_bound bound variable z) row.0 row.1 ∙ ap (items_in (with_bound bound variable z)) (items_hidden-the_row-ItemTwo-0 items) in
      λ i. flat_map (λ z. each z i) the_turns

  pub steps_loop : (before : List ConnectorTwo) → steps_of before bound line (Loop variable low high items)
      ≡ unbound_steps bound line low ++ (unbound_steps bound line high ++ flat_map (λ z. counted 1 ∷ steps_in before (with_bound bound variable z) items) the_turns)
  steps_loop before =
      let row = row_of (Loop variable low high items) in
      let each : (z : ℤ) → steps_of_row before (with_bound bound variable z) row.1 ≡ steps_in before (with_bound bound variable z) items
      = λ z. steps_row before (with_bound bound variable z) row.0 row.1 ∙ ap (steps_in before (with_bound bound variable z)) (items_hidden-the_row-ItemTwo-0 items) in
      λ i. unbound_steps bound line low ++ (unbound_steps bound line high ++ flat_map (λ z. counted 1 ∷ each z i) the_turns)
