-- Fronts of right logs.
use Rattle.std.specs.Prelude.{ℕ, ◌+◌, ◌<◌, List, [], ◌∷◌, ◌++◌, length, slice_index_or}
use Rattle.reo_net_base.specs.Net.{Net}
use Rattle.reo_joint_values.specs.declared.value.JointValue.{JointValue}
use Rattle.reo_joint_values.specs.Values.{Family}
use Rattle.reo_refute_base.specs.declared.line.LogLine.{LogLine}
use Rattle.reo_refute_base.specs.declared.line.LogLine.TheVariants.{At, Drop, Split}
use Rattle.reo_refute_base.specs.Items.{Lists}
use Rattle.reo_refute_base.specs.Live.{all_live, live_at, without, alone}
use Rattle.reo_refute_base.specs.Logs.{MayGo, MaySplit, live_value, joined, IsBranch, IsNextLive}
use Rattle.reo_refute_base.specs.Places.{IsAllowed}

-- A front of a branch, as far as it is right: no line, the whole branch, a drop and a front of what
-- follows, or a split with some of its branches and a front of the next.
pub data IsBranchFront (net : Net) (lists : Lists) (allowed : ℕ → ℕ → Type 0)
    : Family → List LogLine → Type 0 where
  begun : (live : Family) → IsBranchFront net lists allowed live []
  dropped : (live : Family) (j : ℕ) (v : JointValue) (side : ℕ) (rest : List LogLine)
      → MayGo net lists allowed live j v side
      → IsBranchFront net lists allowed (without live j v) rest
      → IsBranchFront net lists allowed live (Drop j v side ∷ rest)
  whole : (live : Family) (lines : List LogLine) → IsBranch net lists allowed live lines
      → IsBranchFront net lists allowed live lines
  opened : (live : Family) (j : ℕ) (pieces : List (List LogLine)) (last : List LogLine)
      → MaySplit net lists live j
      → length pieces < length (live_at lists live j)
      → ((m : ℕ) → m < length pieces
      → IsBranch net lists allowed (alone live j (live_value lists live j m)) (slice_index_or pieces m []))
      → IsBranchFront net lists allowed (alone live j (live_value lists live j (length pieces))) last
      → IsBranchFront net lists allowed live (Split j ∷ (joined pieces ++ last))

-- A front of the parts of a log for the live places from a place on.
pub data ArePartsFront (net : Net) (turn : ℕ) (given : List ℕ) (lists : Lists)
    : ℕ → List LogLine → Type 0 where
  begun : (from : ℕ) → ArePartsFront net turn given lists from []
  inside : (from p : ℕ) (front : List LogLine) → IsNextLive net turn given from p
      → IsBranchFront net lists (IsAllowed net turn given p) (all_live lists) front
      → ArePartsFront net turn given lists from (At p ∷ front)
  past : (from p : ℕ) (branch rest : List LogLine) → IsNextLive net turn given from p
      → IsBranch net lists (IsAllowed net turn given p) (all_live lists) branch
      → ArePartsFront net turn given lists (p + 1) rest
      → ArePartsFront net turn given lists from (At p ∷ (branch ++ rest))
