-- What is known of weights, and of rounds that cannot be planned.
use Rattle.std.specs.Prelude.{ℕ, ◌<◌, ◌≤◌, ◌≡◌, ◌⊎◌, Bool, List}
use Rattle.reo_net_base.specs.Net.{Net}
use Rattle.reo_net_base.specs.Sides.{side_count}
use Rattle.reo_net_base.specs.Wired.{IsWired, IsOrder}
use Rattle.reo_net_laws.specs.Parts.{IsClosed, SameKnot}
use Rattle.reo_net_laws.specs.Knots.{AreNumbers, IsLoop, in_knot}
use Rattle.reo_joint_values.specs.Many.{IsJointIn}
use Rattle.reo_weights.specs.Weights.{IsWeight}
use Rattle.reo_weights.specs.Over.{Cause, IsWithin, IsOver}
use Rattle.reo_weights.specs.Over.Cause.{spent, wide}

-- A closed set of sides has one weight, whatever numbers the items have.
abbrev pub WeightIsOne : Type 0
WeightIsOne = (net : Net) → IsWired net → (inside : ℕ → Bool) → IsClosed net inside
    → (w x : ℕ) → IsWeight net inside w → IsWeight net inside x → w ≡ x

-- Where the joints have an order, each set of sides has a weight.
abbrev pub WeightExists : Type 0
WeightExists = (net : Net) → IsWired net → (order : List ℕ) → IsOrder net order
    → (inside : ℕ → Bool) → (weight : ℕ) × IsWeight net inside weight

-- A set of sides without a loop joint weighs one.
abbrev pub LooplessPartsWeighOne : Type 0
LooplessPartsWeighOne = (net : Net) (inside : ℕ → Bool)
    → ((j : ℕ) → IsJointIn net inside j → IsLoop net j → ⊥)
    → (weight : ℕ) → IsWeight net inside weight → weight ≡ 1

-- No weight is above the greatest.
abbrev pub WeightIsSmall : Type 0
WeightIsSmall = (net : Net) (inside : ℕ → Bool) (weight : ℕ) → IsWeight net inside weight → weight ≤ 1000000000000000000

-- A circuit has one numbering of its parts.
abbrev pub NumbersAreOne : Type 0
NumbersAreOne = (net : Net) (a b : List ℕ) (m n : ℕ) → AreNumbers (SameKnot net) (side_count net) a m
    → AreNumbers (SameKnot net) (side_count net) b n → (a ≡ b) × (m ≡ n)

-- There is one cause and no other.
abbrev pub CauseIsOne : Type 0
CauseIsOne = (budget : ℕ) (net : Net) → IsWired net → (a b : Cause) → IsOver budget net a → IsOver budget net b → a ≡ b

-- No cause is there where each part is within the budget.
abbrev pub WithinIsNotOver : Type 0
WithinIsNotOver = (budget : ℕ) (net : Net) → IsWired net → (numbers : List ℕ) (count : ℕ)
    → AreNumbers (SameKnot net) (side_count net) numbers count
    → ((k : ℕ) → k < count → IsWithin budget net (in_knot numbers k))
    → (cause : Cause) → IsOver budget net cause → ⊥

-- Where the joints have an order, either there is a cause or there is none.
abbrev pub OverIsDecided : Type 0
OverIsDecided = (budget : ℕ) (net : Net) → IsWired net → (order : List ℕ) → IsOrder net order
    → ((cause : Cause) × IsOver budget net cause) ⊎ ((cause : Cause) → IsOver budget net cause → ⊥)

-- The numbers that a cause names.
abbrev pub HasSmallNumbers : ℕ → Net → Cause → Type 0
HasSmallNumbers budget net (spent knot weight limit) = (knot < side_count net) × (weight ≤ 1000000000000000000) × (limit ≡ budget)
HasSmallNumbers budget net (wide knot) = knot < side_count net

-- They are small.
abbrev pub CausesAreSmall : Type 0
CausesAreSmall = (budget : ℕ) (net : Net) (cause : Cause) → IsOver budget net cause → HasSmallNumbers budget net cause
