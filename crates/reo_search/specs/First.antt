-- The rows of the first assignment of a set of sides, or why they are not searched for.
use Rattle.std.specs.Prelude.{ℕ, ◌<◌, ◌≡◌, ◌↔◌, IsTrue, Bool, List, Option, length, slice_index}
use Rattle.reo_values.specs.declared.value.Value.{Value}
use Rattle.reo_net_base.specs.Net.{Net}
use Rattle.reo_net_laws.specs.Jams.{IsThreeColouring}
use Rattle.reo_net_laws.specs.Keys.{IsFirstIn}
use Rattle.reo_net_laws.specs.Sublists.{sides_in, part_rows}
use Rattle.reo_weights.specs.Over.{IsWithin, IsOverBy}
use Rattle.reo_weights.specs.Over.Cause.{spent, wide}
pub use Rattle.reo_walk.specs.declared.part.Part.{Part}
use Rattle.reo_weights.specs.declared.exceeds.Exceeds.{Exceeds}
use Rattle.reo_weights.specs.declared.exceeds.Exceeds.TheVariants as faults
use Rattle.reo_walk.specs.Arranged.{IsJamRow}

-- The part tells the sides of a set and the rows there of its first assignment, and whether one of them is a jam row.
pub record AreFirstRows (net : Net) (inside : ℕ → Bool) (turn : ℕ) (part : Part) : Type 0 where
  pub rows : List ℕ
  pub items : List (Option Value)
  pub first : IsFirstIn net inside turn rows items
  pub sides : part.sides ≡ sides_in net inside
  pub rows_are : part.rows ≡ part_rows (sides_in net inside) rows
  pub jammed : IsTrue part.jammed ↔ ((m : ℕ) × (m < length part.sides) × IsJamRow net (slice_index part.sides m) (slice_index part.rows m))

-- The set is within a budget, and these are the rows of its first assignment.
pub record IsFirstWithin (budget : ℕ) (net : Net) (inside : ℕ → Bool) (turn : ℕ) (part : Part) : Type 0 where
  pub within : IsWithin budget net inside
  pub first : AreFirstRows net inside turn part

-- No assignment of a set does without a jam row.
abbrev pub HasNoThreeColouring : Net → (ℕ → Bool) → Type 0
HasNoThreeColouring net inside = (rows : List ℕ) (items : List (Option Value)) → IsThreeColouring net inside rows items → ⊥

-- Why the part of a number is not searched. `NoMemory` may come at any time.
abbrev pub IsSearchFault : ℕ → Net → (ℕ → Bool) → ℕ → Exceeds → Type 0
IsSearchFault budget net inside knot (faults.Wide k) = IsOverBy budget net inside knot (wide k)
IsSearchFault budget net inside knot (faults.Spent k weight) = IsOverBy budget net inside knot (spent k weight budget)
IsSearchFault budget net inside knot faults.NoMemory = Unit {0}
