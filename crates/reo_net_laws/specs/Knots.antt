-- The knots of a circuit, in numbers.
use Rattle.std.specs.Prelude.{ℕ, ◌<◌, ◌≡◌, ◌↔◌, ◌==◌, ◌&&◌, Bool, List, Contains, length, nat_lt, slice_index, slice_index_or}
use Rattle.std.specs.List.Sorted.{IsStrictlyIncreasing}
use Rattle.reo_net_base.specs.declared.joint.Joint.{Joint}
use Rattle.reo_net_base.specs.Net.{Net, side_at}
use Rattle.reo_net_base.specs.Sides.{side_count}
use Rattle.reo_net_laws.specs.Parts.{IsLinked, SameKnot, IsKnot}
use Rattle.reo_net_laws.specs.Sublists.{sides_in}

-- What contracts see of knots: the knot of each side, and the sides and the loop joints of each
-- knot.
pub record Knotted : Type 0 where
  pub numbers : List ℕ
  pub sides : List (List ℕ)
  pub loop_joints : List (List ℕ)

-- Knots with these numbers and lists.
abbrev pub knotted : List ℕ → List (List ℕ) → List (List ℕ) → Knotted
knotted numbers sides loop_joints =
    record { numbers = numbers; sides = sides; loop_joints = loop_joints }

-- How many knots there are.
abbrev pub knot_count : Knotted → ℕ
knot_count knots = length knots.sides

-- Whether a side has this number.
abbrev pub in_knot : List ℕ → ℕ → ℕ → Bool
in_knot numbers k s = nat_lt s (length numbers) && (slice_index numbers s == k)

-- Numbers for the first n sides: two have one exactly where they are the same in some way, each
-- number from 0 on is in use, and they come in the order of the least sides that have them.
pub record AreNumbers (are_same : ℕ → ℕ → Type 0) (n : ℕ) (numbers : List ℕ) (count : ℕ)
    : Type 0 where
  pub one_each : length numbers ≡ n
  pub in_range : (s : ℕ) → s < n → slice_index numbers s < count
  pub same : (s t : ℕ) → s < n → t < n
      → (slice_index numbers s ≡ slice_index numbers t) ↔ are_same s t
  pub each : (k : ℕ) → k < count → (s : ℕ) × (s < n) × (slice_index numbers s ≡ k)
  pub by_least : (s k : ℕ) → s < n → k < slice_index numbers s
      → (t : ℕ) × (t < s) × (slice_index numbers t ≡ k)

-- A joint whose two sides the joints of smaller number link.
abbrev pub IsLoop : Net → ℕ → Type 0
IsLoop net j = (d : Joint)
    → IsLinked net j (side_at net (slice_index_or net.joints j d).giver)
    (side_at net (slice_index_or net.joints j d).taker)

-- A loop joint whose giver's side has this number.
pub record IsLoopOf (net : Net) (numbers : List ℕ) (k j : ℕ) : Type 0 where
  pub in_range : j < length net.joints
  pub closes : IsLoop net j
  pub here : (d : Joint)
      → slice_index numbers (side_at net (slice_index_or net.joints j d).giver) ≡ k

-- The numbers of which something holds, in increasing order.
pub record AreThose (holds : ℕ → Type 0) (xs : List ℕ) : Type 0 where
  pub increasing : IsStrictlyIncreasing xs
  pub exact : (x : ℕ) → Contains xs x ↔ holds x

-- The knots of a circuit, numbered in the order of their least sides, with their sides and loop
-- joints.
pub record AreKnots (net : Net) (knots : Knotted) : Type 0 where
  pub numbered : AreNumbers (SameKnot net) (side_count net) knots.numbers (knot_count knots)
  pub are_knots : (k : ℕ) → k < knot_count knots → IsKnot net (in_knot knots.numbers k)
  pub sides_are : (k : ℕ) (d : List ℕ) → k < knot_count knots
      → slice_index_or knots.sides k d ≡ sides_in net (in_knot knots.numbers k)
  pub loops_are : (k : ℕ) (d : List ℕ) → k < knot_count knots
      → AreThose (IsLoopOf net knots.numbers k) (slice_index_or knots.loop_joints k d)
