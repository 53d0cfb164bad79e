-- Right logs.
use Rattle.std.specs.Prelude.{ℕ, ◌+◌, ◌<◌, ◌≤◌, ◌≡◌, ◌≢◌, true, List, [], ◌∷◌, ◌++◌, length, slice_index_or}
use Rattle.std.specs.List.{flat_map}
use Rattle.reo_net_base.specs.Net.{Net}
use Rattle.reo_net_base.specs.Wired.{IsWired, IsOrder}
use Rattle.reo_joint_values.specs.declared.value.JointValue.{JointValue}
use Rattle.reo_joint_values.specs.declared.value.JointValue.TheVariants.{Jam}
use Rattle.reo_joint_values.specs.Values.{Family, AtSide}
use Rattle.reo_refute_base.specs.declared.line.LogLine.{LogLine}
use Rattle.reo_refute_base.specs.declared.line.LogLine.TheVariants.{At, Drop, Empty, Split}
use Rattle.reo_refute_base.specs.Items.{Lists, numbered, AreItemLists}
use Rattle.reo_refute_base.specs.Live.{all_live, live_at, without, alone, HasSupport}
use Rattle.reo_refute_base.specs.Places.{IsAllowed, IsLive, NoneBefore}

-- A live value at a joint of a side that has no support there.
pub record MayGo (net : Net) (lists : Lists) (allowed : ℕ → ℕ → Type 0) (live : Family)
    (j : ℕ) (v : JointValue) (side : ℕ) : Type 0 where
  pub in_range : j < length net.joints
  pub is_live : live j v ≡ true
  pub at_side : AtSide net j side
  pub unsupported : HasSupport net (numbered lists) allowed live side j v → ⊥

-- A joint at which no value is live.
pub record IsEmpty (net : Net) (lists : Lists) (live : Family) (j : ℕ) : Type 0 where
  pub in_range : j < length net.joints
  pub none : live_at lists live j ≡ []

-- A joint at which some value is live.
pub record MaySplit (net : Net) (lists : Lists) (live : Family) (j : ℕ) : Type 0 where
  pub in_range : j < length net.joints
  pub some : live_at lists live j ≢ []

-- The value of this number among those that are live at a joint.
abbrev pub live_value : Lists → Family → ℕ → ℕ → JointValue
live_value lists live j m = slice_index_or (live_at lists live j) m Jam

-- Lines, one after another.
abbrev pub joined : List (List LogLine) → List LogLine
joined pieces = flat_map (λ lines. lines) pieces

-- A branch that begins with what is live: drops, each of a value that may go, then one `empty` of a
-- joint at which none is live, or one `split` with a branch for each value that is live at its
-- joint, in which it alone is live there.
pub data IsBranch (net : Net) (lists : Lists) (allowed : ℕ → ℕ → Type 0)
    : Family → List LogLine → Type 0 where
  drop : (live : Family) (j : ℕ) (v : JointValue) (side : ℕ) (rest : List LogLine)
      → MayGo net lists allowed live j v side
      → IsBranch net lists allowed (without live j v) rest
      → IsBranch net lists allowed live (Drop j v side ∷ rest)
  empty : (live : Family) (j : ℕ) → IsEmpty net lists live j
      → IsBranch net lists allowed live (Empty j ∷ [])
  split : (live : Family) (j : ℕ) (pieces : List (List LogLine)) → MaySplit net lists live j
      → length pieces ≡ length (live_at lists live j)
      → ((m : ℕ) → m < length pieces
      → IsBranch net lists allowed (alone live j (live_value lists live j m)) (slice_index_or pieces m []))
      → IsBranch net lists allowed live (Split j ∷ joined pieces)

-- The first live place from a place on.
pub record IsNextLive (net : Net) (turn : ℕ) (given : List ℕ) (from p : ℕ) : Type 0 where
  pub from_on : from ≤ p
  pub is_live : IsLive net turn given p
  pub none_before : (q : ℕ) → from ≤ q → q < p → IsLive net turn given q → ⊥

-- The parts of a log for the live places from a place on: for each, in order, `at` and a branch
-- that begins with all values live.
pub data AreParts (net : Net) (turn : ℕ) (given : List ℕ) (lists : Lists)
    : ℕ → List LogLine → Type 0 where
  done : (from : ℕ) → ((p : ℕ) → from ≤ p → IsLive net turn given p → ⊥)
      → AreParts net turn given lists from []
  part : (from p : ℕ) (branch rest : List LogLine) → IsNextLive net turn given from p
      → IsBranch net lists (IsAllowed net turn given p) (all_live lists) branch
      → AreParts net turn given lists (p + 1) rest
      → AreParts net turn given lists from (At p ∷ (branch ++ rest))

-- A right log: a part for each live place.
pub record IsRightLog (net : Net) (turn : ℕ) (given : List ℕ) (log : List LogLine) : Type 0 where
  pub lists : Lists
  pub item_lists : AreItemLists net lists
  pub parts : AreParts net turn given lists 0 log

-- Where a right log is, no colouring stands before the given rows.
abbrev pub RightLogsRefute : Type 0
RightLogsRefute = (net : Net) → IsWired net → (order : List ℕ) → IsOrder net order
    → (turn : ℕ) (given : List ℕ) (log : List LogLine)
    → IsRightLog net turn given log → NoneBefore net turn given
