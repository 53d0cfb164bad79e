-- Assignments by values, and the first of them by the numbers at some places.
use Rattle.std.specs.Prelude.{ℕ, ◌≡◌, ◌≢◌, Bool, List}
use Rattle.std.specs.declared.cmp.Ordering.TheVariants.{Less}
use Rattle.std.specs.Ordering.{nat_cmp}
use Rattle.std.specs.Cmp.Lexicographic.{slice_cmp}
use Rattle.reo_net_base.specs.Net.{Net}
use Rattle.reo_joint_values.specs.Values.{Names, Choice, Family}
use Rattle.reo_joint_values.specs.Chosen.{IsChosen}
use Rattle.reo_walk.specs.declared.place.KeyPlace.{KeyPlace}
use Rattle.reo_walk.specs.Places.{numbers}

-- An assignment with values in the sets.
pub record HasChosen (net : Net) (names : Names) (inside : ℕ → Bool) (sets : Family) : Type 0 where
  pub rows : ℕ → ℕ
  pub choice : Choice
  pub chosen : IsChosen net names inside sets rows choice

-- No assignment has its values in the sets.
abbrev pub HasNone : Net → Names → (ℕ → Bool) → Family → Type 0
HasNone net names inside sets = (rows : ℕ → ℕ) (choice : Choice) → IsChosen net names inside sets rows choice → ⊥

-- What has been settled of some places: the assignments that are left are those with these numbers, and no other stands before them.
pub record Settling (Old Now : (ℕ → ℕ) → Choice → Type 0) (net : Net) (turn : ℕ) (places : List KeyPlace) (chosen : List ℕ) : Type 0 where
  pub old : (rows : ℕ → ℕ) (choice : Choice) → Now rows choice → Old rows choice
  pub has : (rows : ℕ → ℕ) (choice : Choice) → Now rows choice → numbers net turn places rows ≡ chosen
  pub keeps : (rows : ℕ → ℕ) (choice : Choice) → Old rows choice → numbers net turn places rows ≡ chosen → Now rows choice
  pub least : (rows : ℕ → ℕ) (choice : Choice) → Old rows choice → slice_cmp nat_cmp (numbers net turn places rows) chosen ≢ Less

-- An assignment that is first by the numbers at some places, and its numbers.
pub record IsFirstWith (net : Net) (names : Names) (inside : ℕ → Bool) (turn : ℕ) (sets : Family) (places : List KeyPlace)
    (chosen : List ℕ) : Type 0 where
  pub first : HasChosen net names inside sets
  pub numbers_are : numbers net turn places first.rows ≡ chosen
  pub least : (others : ℕ → ℕ) (other_choice : Choice) → IsChosen net names inside sets others other_choice
      → slice_cmp nat_cmp (numbers net turn places others) chosen ≢ Less
