-- How often a test holds.
use Rattle.std.specs.Prelude.{ℕ, ◌<◌, ◌≤◌, ◌≡◌, Bool, true, false}
use Rattle.reo_net_base.specs.Branching.{merger_class}
use Rattle.reo_mark_sets.specs.declared.tallies.Multiplicity.{Multiplicity}
use Rattle.reo_mark_sets.specs.declared.tallies.Multiplicity.TheVariants.{Nowhere, Once, Often}

-- The test holds of one number alone, from one on and below another.
pub record HoldsOnce (test : ℕ → Bool) (from to i : ℕ) : Type 0 where
  pub after : from ≤ i
  pub in_range : i < to
  pub here : test i ≡ true
  pub alone : (e : ℕ) → from ≤ e → e < to → test e ≡ true → e ≡ i

-- It holds of two of them.
pub record HoldsOften (test : ℕ → Bool) (from to : ℕ) : Type 0 where
  pub one : ℕ
  pub other : ℕ
  pub after : from ≤ one
  pub before : one < other
  pub in_range : other < to
  pub here : test one ≡ true
  pub there : test other ≡ true

-- Of none of those numbers, of one, or of more.
abbrev pub IsTally : (ℕ → Bool) → ℕ → ℕ → Multiplicity → Type 0
IsTally test from to Nowhere = (e : ℕ) → from ≤ e → e < to → test e ≡ false
IsTally test from to (Once i) = HoldsOnce test from to i
IsTally test from to Often = HoldsOften test from to

-- The first number from one on, and below another, of which the test holds.
pub record IsFirstBetween (test : ℕ → Bool) (from to i : ℕ) : Type 0 where
  pub after : from ≤ i
  pub in_range : i < to
  pub here : test i ≡ true
  pub first : (e : ℕ) → from ≤ e → e < i → test e ≡ false

-- The input of which the test holds and which comes first in the round of a number.
pub record IsFirstInTurn (test : ℕ → Bool) (inputs turn i : ℕ) : Type 0 where
  pub in_range : i < inputs
  pub here : test i ≡ true
  pub first : (e : ℕ) → e < inputs → test e ≡ true → merger_class inputs i turn ≤ merger_class inputs e turn
