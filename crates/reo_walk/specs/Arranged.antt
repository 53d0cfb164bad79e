-- The first assignment of a knot with values in given sets.
use Rattle.std.specs.Prelude.{ℕ, ◌+◌, ◌<◌, ◌≡◌, ◌≢◌, ◌↔◌, IsTrue, Bool, true, Option, None, List, length, slice_index, slice_index_or}
use Rattle.std.specs.declared.cmp.Ordering.TheVariants.{Less}
use Rattle.reo_values.specs.declared.value.Value.{Value}
use Rattle.reo_net_base.specs.Net.{Net, mark_at, row_count}
use Rattle.reo_net_base.specs.First.{positions, order_by}
use Rattle.reo_net_laws.specs.Parts.{IsAssignment}
use Rattle.reo_net_laws.specs.Keys.{within}
use Rattle.reo_net_laws.specs.Sublists.{sides_in, part_rows}
use Rattle.reo_joint_values.specs.declared.value.JointValue.{JointValue}
use Rattle.reo_joint_values.specs.Values.{Names, Family, giver_mark, taker_mark, item_named, joint_of, giver_side}
use Rattle.reo_side_tables.specs.Marks.{side_in}
use Rattle.reo_walk.specs.declared.part.Part.{Part}

-- What rows and items say at a joint is a value of a set.
pub record IsOfSet (net : Net) (names : Names) (sets : Family) (rows : List ℕ) (items : List (Option Value)) (j : ℕ) : Type 0 where
  pub value : JointValue
  pub has : sets j value ≡ true
  pub gives : giver_mark value ≡ mark_at net rows (joint_of net j).giver
  pub takes : taker_mark value ≡ mark_at net rows (joint_of net j).taker
  pub item : item_named names j value ≡ slice_index_or items j None

-- An assignment with values in given sets.
pub record IsAssignmentOf (net : Net) (names : Names) (inside : ℕ → Bool) (sets : Family) (rows : List ℕ)
    (items : List (Option Value)) : Type 0 where
  pub assignment : IsAssignment net inside rows items
  pub of_sets : (j : ℕ) → j < length net.joints → inside (giver_side net j) ≡ true → IsOfSet net names sets rows items j

-- There is no assignment with values in the sets.
abbrev pub HasNoAssignment : Net → Names → (ℕ → Bool) → Family → Type 0
HasNoAssignment net names inside sets = (rows : List ℕ) (items : List (Option Value)) → IsAssignmentOf net names inside sets rows items → ⊥

-- A jam row of a side.
abbrev pub IsJamRow : Net → ℕ → ℕ → Type 0
IsJamRow net side row = row + 1 ≡ row_count (side_in net side)

-- The part tells the sides of a set and the rows there of the first assignment with values in the sets, and whether one of them is a
-- jam row.
pub record IsFirstPart (net : Net) (names : Names) (inside : ℕ → Bool) (turn : ℕ) (sets : Family) (part : Part) : Type 0 where
  pub rows : List ℕ
  pub items : List (Option Value)
  pub assignment : IsAssignmentOf net names inside sets rows items
  pub least : (others : List ℕ) (other_items : List (Option Value)) → IsAssignmentOf net names inside sets others other_items
      → order_by (within inside (positions net turn)) others rows ≢ Less
  pub sides : part.sides ≡ sides_in net inside
  pub rows_are : part.rows ≡ part_rows (sides_in net inside) rows
  pub jammed : IsTrue part.jammed ↔ ((m : ℕ) × (m < length part.sides) × IsJamRow net (slice_index part.sides m) (slice_index part.rows m))
