-- Rows that are those of the first assignments of the parts of a circuit.
use Rattle.std.specs.Prelude.{ℕ, zero, suc, ◌+◌, ◌<◌, ◌≤◌, ◌≡◌, cond, false, List, length, slice_index}
use Rattle.reo_net_base.specs.declared.colouring.Colouring.{Colouring}
use Rattle.reo_net_base.specs.Net.{Net}
use Rattle.reo_net_base.specs.Sides.{side_count}
use Rattle.reo_net_base.specs.First.{IsFirst}
use Rattle.reo_net_laws.specs.Knots.{Knotted, in_knot, knot_count}
use Rattle.reo_weights.specs.still.Joining.{HasFirst, HaveFirsts}
use Rattle.reo_weights.specs.Weights.{IsWeight}
use Rattle.reo_weights.specs.Over.{Cause, IsWithin, IsOver}
use Rattle.reo_planning.specs.declared.kept.Kept.{Kept}
use Rattle.reo_planning.specs.Keeping.{serves}

-- A row for each side; the first n parts are within a budget, and the rows there are those of
-- their first assignments.
pub record ArePlanned (budget : ℕ) (net : Net) (knots : Knotted) (turn n : ℕ) (rows : List ℕ)
    : Type 0 where
  pub one_row : length rows ≡ side_count net
  pub within : (k : ℕ) → k < n → IsWithin budget net (in_knot knots.numbers k)
  pub firsts : HaveFirsts net knots.numbers n turn rows

-- One part more is within the budget and has the rows of its first assignment; the rows of all
-- other sides stay.
pub record IsPartPlanned (budget : ℕ) (net : Net) (knots : Knotted) (turn k : ℕ)
    (old new : List ℕ) : Type 0 where
  pub one_each : length new ≡ length old
  pub within : IsWithin budget net (in_knot knots.numbers k)
  pub first : HasFirst net knots.numbers turn new k
  pub others : (s : ℕ) → in_knot knots.numbers k s ≡ false → slice_index new s ≡ slice_index old s

-- No part is over, and this is the first colouring.
pub record IsFirstBy (budget : ℕ) (net : Net) (turn : ℕ) (colouring : Colouring) : Type 0 where
  pub within : (cause : Cause) → IsOver budget net cause → ⊥
  pub first : IsFirst net turn colouring.rows colouring.items

-- The sum of the first n of some numbers.
abbrev pub sum_below : ℕ → (ℕ → ℕ) → ℕ
sum_below zero f = 0
sum_below (suc n) f = sum_below n f + f n

-- These are the weights of the parts.
abbrev pub AreWeights : Net → Knotted → (ℕ → ℕ) → Type 0
AreWeights net knots weights = (k : ℕ) → k < knot_count knots
    → IsWeight net (in_knot knots.numbers k) (weights k)

-- What a part weighs, but nothing where its rows are kept.
abbrev pub weight_left : Kept → ℕ → (ℕ → ℕ) → ℕ → ℕ
weight_left kept budget weights k = cond (serves kept budget k) 0 (weights k)

-- What is left weighs no more than all.
abbrev pub LeftWeighsNoMore : Type 0
LeftWeighsNoMore = (kept : Kept) (budget : ℕ) (weights : ℕ → ℕ) (n : ℕ)
    → sum_below n (weight_left kept budget weights) ≤ sum_below n weights
