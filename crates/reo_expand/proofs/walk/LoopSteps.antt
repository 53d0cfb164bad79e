-- The steps of a loop, from its bounds on.
use Rattle.std.proofs.Common.{◌≡◌, ◌∙◌, ◌⊎◌, ◌++◌, ◌∷◌, [], ℕ, Err, List, append_assoc, ap, sym, subst}
use Rattle.std.specs.List.{flat_map}
use Rattle.reo_trees.specs.declared.indexes.Index.{Index}
use Rattle.reo_trees.specs.declared.items_two.ItemTwo.{ItemTwo}
use Rattle.reo_trees.specs.declared.items_two.FormTwo.{FormTwo}
use Rattle.reo_trees.specs.declared.items_two.FormTwo.TheVariants.{Loop}
use Rattle.reo_trees.specs.declared.programs_two.DeclarationTwo.{DeclarationTwo}
use Rattle.reo_expand.specs.declared.base.bound.Bound.{Bound}
use Rattle.reo_expand.specs.declared.base.fault.ExpandFault.{ExpandFault}
use Rattle.reo_expand.specs.declared.base.fault.ExpandFault.TheVariants as faults
use Rattle.reo_expand.specs.base.Indexed.{value_of, turns, turn_count}
use Rattle.reo_expand.specs.base.Expansion.{items_of, with_bound}
use Rattle.reo_expand.specs.base.Steps.{Step, steps_of, steps_in, two_in, walked, unbound_steps}
use Rattle.reo_expand.specs.base.Steps.Step.{counted}
use Rattle.reo_expand.specs.base.Judged.{IsHalted}
use Rattle.reo_expand.proofs.base.Loops.{items_loop, steps_loop}
use Rattle.reo_expand.proofs.base.Turning.{turn_steps, turn_items}
use Rattle.reo_expand.proofs.base.Walking.{halted}
use Rattle.reo_expand.specs.declared.walk.walk.Span.{Span}
use Rattle.reo_expand.specs.walk.Spans.{IsSpan}

module _ (n : ℕ) (before : List DeclarationTwo) (bound : List Bound) (line : ℕ) (form : FormTwo) (variable : List ℕ) (low high : Index) (items : List ItemTwo) (is : form ≡ Loop variable low high items) where
  abbrev pub bound_steps : List Step
  bound_steps = unbound_steps bound line low ++ unbound_steps bound line high

  abbrev loop_part : List Step
  loop_part = flat_map (λ z. counted 1 ∷ steps_in (flat_map two_in before) (with_bound bound variable z) items) (turns (value_of bound low) (value_of bound high))

  whole : steps_of (flat_map two_in before) bound line form ≡ bound_steps ++ loop_part
  whole =
      ap (steps_of (flat_map two_in before) bound line) is ∙ steps_loop bound line variable low high items (flat_map two_in before)
      ∙ sym (append_assoc (unbound_steps bound line low) (unbound_steps bound line high) loop_part)

  -- A name of the bounds without a value is the answer.
  pub bounds_stopped : (f : ExpandFault) → IsHalted bound_steps f → (f ≡ faults.NoMemory) ⊎ (walked n (steps_of (flat_map two_in before) bound line form) ≡ Err f)
  bounds_stopped f h = subst (λ s. (f ≡ faults.NoMemory) ⊎ (walked n s ≡ Err f)) (sym whole) (halted n bound_steps loop_part f h)

  module _ (none : bound_steps ≡ []) (s : Span) (span : IsSpan bound low high s) where
    -- Otherwise the steps are those of the turns.
    pub steps_whole : steps_of (flat_map two_in before) bound line form ≡ turn_steps before bound variable items s.first s.turns
    steps_whole =
        whole ∙ ap (λ l. l ++ loop_part) none
        ∙ (λ i. turn_steps before bound variable items (sym span.first i) (turn_count (value_of bound low) (value_of bound high)))
        ∙ ap (turn_steps before bound variable items s.first) (sym span.turns)

    pub items_whole : items_of bound line form ≡ turn_items bound variable items s.first s.turns
    items_whole =
        ap (items_of bound line) is ∙ items_loop bound line variable low high items
        ∙ (λ i. turn_items bound variable items (sym span.first i) (turn_count (value_of bound low) (value_of bound high)))
        ∙ ap (turn_items bound variable items s.first) (sym span.turns)
