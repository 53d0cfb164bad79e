-- Rounds that cannot be planned within a budget.
use Rattle.std.specs.Prelude.{ℕ, ◌<◌, ◌≤◌, ◌≡◌, Bool, List}
use Rattle.reo_net_base.specs.Net.{Net}
use Rattle.reo_net_base.specs.Sides.{side_count}
use Rattle.reo_net_laws.specs.Parts.{SameKnot}
use Rattle.reo_net_laws.specs.Knots.{AreNumbers, in_knot}
use Rattle.reo_weights.specs.Widths.{IsWide}
use Rattle.reo_weights.specs.Weights.{IsWeight}

-- Why a round cannot be planned: a part of its circuit is spent, its weight being above the budget, or it is wide.
pub data Cause : Type 0 where
  spent : (knot weight budget : ℕ) → Cause
  wide : (knot : ℕ) → Cause

-- A set of sides is within a budget: it is not wide, and its weight is not above the budget.
pub record IsWithin (budget : ℕ) (net : Net) (inside : ℕ → Bool) : Type 0 where
  pub narrow : IsWide net inside → ⊥
  pub weight : ℕ
  pub weighs : IsWeight net inside weight
  pub few : weight ≤ budget

-- A set of sides is spent: it is not wide, and its weight is above the budget.
pub record IsSpent (budget : ℕ) (net : Net) (inside : ℕ → Bool) (weight : ℕ) : Type 0 where
  pub narrow : IsWide net inside → ⊥
  pub weighs : IsWeight net inside weight
  pub many : budget < weight

-- Why the part of a number is over.
abbrev pub IsOverBy : ℕ → Net → (ℕ → Bool) → ℕ → Cause → Type 0
IsOverBy budget net inside knot (spent k weight limit) = (k ≡ knot) × (limit ≡ budget) × IsSpent budget net inside weight
IsOverBy budget net inside knot (wide k) = (k ≡ knot) × IsWide net inside

-- A circuit's round cannot be planned within a budget, and why: this part is over, and each of smaller number is within the budget.
pub record IsOver (budget : ℕ) (net : Net) (cause : Cause) : Type 0 where
  pub numbers : List ℕ
  pub count : ℕ
  pub numbered : AreNumbers (SameKnot net) (side_count net) numbers count
  pub knot : ℕ
  pub in_range : knot < count
  pub over : IsOverBy budget net (in_knot numbers knot) knot cause
  pub before : (k : ℕ) → k < knot → IsWithin budget net (in_knot numbers k)
