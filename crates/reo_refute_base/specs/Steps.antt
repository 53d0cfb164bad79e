-- Logs that are read line by line.
use Rattle.std.specs.Prelude.{ℕ, ◌↔◌, List, [], ◌∷◌, ◌++◌, map}
use Rattle.reo_net_base.specs.Net.{Net}
use Rattle.reo_joint_values.specs.declared.value.JointValue.{JointValue}
use Rattle.reo_joint_values.specs.Values.{Family}
use Rattle.reo_refute_base.specs.declared.line.LogLine.{LogLine}
use Rattle.reo_refute_base.specs.declared.line.LogLine.TheVariants.{Drop, Empty, Split}
use Rattle.reo_refute_base.specs.Items.{Lists}
use Rattle.reo_refute_base.specs.Live.{live_at, without, alone}
use Rattle.reo_refute_base.specs.Logs.{MayGo, IsEmpty, MaySplit, IsBranch}
use Rattle.reo_refute_base.specs.Fronts.{IsBranchFront}
use Rattle.reo_refute_base.specs.Places.{IsAllowed}

-- The branches of a split, in their order.
abbrev pub branches : Lists → Family → ℕ → List Family
branches lists live j = map (alone live j) (live_at lists live j)

-- A line read by a reader who keeps what is live in each open branch, the present one first.
pub data IsStep (net : Net) (lists : Lists) (allowed : ℕ → ℕ → Type 0)
    : List Family → LogLine → List Family → Type 0 where
  drop : (live : Family) (open' : List Family) (j : ℕ) (v : JointValue) (side : ℕ)
      → MayGo net lists allowed live j v side
      → IsStep net lists allowed (live ∷ open') (Drop j v side) (without live j v ∷ open')
  empty : (live : Family) (open' : List Family) (j : ℕ) → IsEmpty net lists live j
      → IsStep net lists allowed (live ∷ open') (Empty j) open'
  split : (live : Family) (open' : List Family) (j : ℕ) → MaySplit net lists live j
      → IsStep net lists allowed (live ∷ open') (Split j) (branches lists live j ++ open')

-- Lines that are read one after another.
pub data AreSteps (net : Net) (lists : Lists) (allowed : ℕ → ℕ → Type 0)
    : List Family → List LogLine → List Family → Type 0 where
  none : (open' : List Family) → AreSteps net lists allowed open' [] open'
  more : (before now after : List Family) (line : LogLine) (rest : List LogLine)
      → IsStep net lists allowed before line now → AreSteps net lists allowed now rest after
      → AreSteps net lists allowed before (line ∷ rest) after

-- Lines are a branch exactly where the reader comes from it alone to no open branch.
abbrev pub BranchesAreRead : Type 0
BranchesAreRead = (net : Net) (turn : ℕ) (given : List ℕ) (lists : Lists) (p : ℕ) (live : Family)
    (lines : List LogLine)
    → IsBranch net lists (IsAllowed net turn given p) live lines
    ↔ AreSteps net lists (IsAllowed net turn given p) (live ∷ []) lines []

-- Lines are a front of a branch exactly where the reader can read them.
abbrev pub FrontsAreRead : Type 0
FrontsAreRead = (net : Net) (turn : ℕ) (given : List ℕ) (lists : Lists) (p : ℕ) (live : Family)
    (lines : List LogLine)
    → IsBranchFront net lists (IsAllowed net turn given p) live lines
    ↔ ((open' : List Family) × AreSteps net lists (IsAllowed net turn given p) (live ∷ []) lines open')
