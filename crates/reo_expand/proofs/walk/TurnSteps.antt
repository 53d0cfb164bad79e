-- One turn of a loop more.
use Rattle.std.proofs.Common.{◌≡◌, ◌∙◌, ◌⊎◌, ◌<◌, ◌+◌, ◌++◌, ◌∷◌, [], ℕ, ℤ, pos, ◌+ℤ◌, Ok, Err, List, take, length, append_assoc, ap, sym, subst}
use Rattle.std.specs.List.{flat_map}
use Rattle.std.proofs.Math.Seq.{take-append_seam}
use Rattle.reo_trees.specs.declared.items.Item.{Item}
use Rattle.reo_trees.specs.declared.items_two.ItemTwo.{ItemTwo}
use Rattle.reo_trees.specs.declared.programs_two.DeclarationTwo.{DeclarationTwo}
use Rattle.reo_expand.specs.declared.base.bound.Bound.{Bound}
use Rattle.reo_expand.specs.declared.base.fault.ExpandFault.{ExpandFault}
use Rattle.reo_expand.specs.declared.base.fault.ExpandFault.TheVariants as faults
use Rattle.reo_expand.specs.base.Expansion.{items_in, with_bound}
use Rattle.reo_expand.specs.base.Steps.{Step, steps_in, two_in, walked}
use Rattle.reo_expand.specs.base.Steps.Step.{counted}
use Rattle.reo_expand.proofs.base.Turning.{one_turn, turn_steps, turn_items, turn_done, turn_stopped, one_more}
use Rattle.reo_expand.proofs.base.Walking.{walked-then, stop-or-memory, then-or-memory}

-- The fault is that memory ran out, or what the steps lead to.
abbrev pub IsStop : ℕ → List Step → ExpandFault → Type 0
IsStop n steps f = (f ≡ faults.NoMemory) ⊎ (walked n steps ≡ Err f)

module _ (before : List DeclarationTwo) (bound : List Bound) (variable : List ℕ) (items : List ItemTwo) (first : ℤ) where
  abbrev body : ℤ → List Step
  body z = steps_in (flat_map two_in before) (with_bound bound variable z) items

  -- A turn that may not begin, and one that is stopped behind its beginning.
  pub not_begun : (c m j n : ℕ) (f : ExpandFault) → j < n → walked c (turn_steps before bound variable items first j) ≡ Ok m → IsStop m (counted 1 ∷ []) f → IsStop c (turn_steps before bound variable items first n) f
  not_begun c m j n f lt e h =
      turn_stopped (one_turn before bound variable items) first c m j n f lt e
      (stop-or-memory m (counted 1 ∷ []) (body (first +ℤ pos j)) f h)

  pub not_ended : (c m k j n : ℕ) (f : ExpandFault) (b : List Bound) → j < n → walked c (turn_steps before bound variable items first j) ≡ Ok m → walked m (counted 1 ∷ []) ≡ Ok k → b ≡ with_bound bound variable (first +ℤ pos j)
      → IsStop k (steps_in (flat_map two_in before) b items) f → IsStop c (turn_steps before bound variable items first n) f
  not_ended c m k j n f b lt e begun is h =
      turn_stopped (one_turn before bound variable items) first c m j n f lt e
      (then-or-memory m k (counted 1 ∷ []) (body (first +ℤ pos j)) f begun (subst (λ b. IsStop k (steps_in (flat_map two_in before) b items) f) is h))

  -- A turn that goes well.
  pub gone : (c m k q j : ℕ) (b : List Bound) → walked c (turn_steps before bound variable items first j) ≡ Ok m → walked m (counted 1 ∷ []) ≡ Ok k → b ≡ with_bound bound variable (first +ℤ pos j)
      → walked k (steps_in (flat_map two_in before) b items) ≡ Ok q → walked c (turn_steps before bound variable items first (j + 1)) ≡ Ok q
  gone c m k q j b e begun is went =
      turn_done (one_turn before bound variable items) first c m q j e
      (walked-then m k (counted 1 ∷ []) (body (first +ℤ pos j)) begun ∙ ap (λ b. walked k (steps_in (flat_map two_in before) b items)) (sym is) ∙ went)

  pub made_more : (old out new : List Item) (j : ℕ) (b : List Bound) → out ≡ old ++ turn_items bound variable items first j → new ≡ out ++ items_in b items → b ≡ with_bound bound variable (first +ℤ pos j)
      → new ≡ old ++ turn_items bound variable items first (j + 1)
  made_more old out new j b e made is =
      made
      ∙ ap (λ b. out ++ items_in b items) is
      ∙ ap (λ o. o ++ items_in (with_bound bound variable (first +ℤ pos j)) items) e
      ∙ append_assoc old (turn_items bound variable items first j) (items_in (with_bound bound variable (first +ℤ pos j)) items)
      ∙ ap (λ l. old ++ l) (sym (one_more (λ z. items_in (with_bound bound variable z) items) first j))

  -- Behind it the variable is gone.
  pub left : (b r : List Bound) (z : ℤ) → b ≡ with_bound bound variable z → r ≡ take (length bound) b → r ≡ bound
  left b r z is cut = cut ∙ ap (take (length bound)) is ∙ take-append_seam bound (record { name = variable; value = z } ∷ [])
