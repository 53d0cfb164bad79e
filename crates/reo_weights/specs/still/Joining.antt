-- First assignments of parts, put together.
use Rattle.std.specs.Prelude.{ℕ, ◌<◌, ◌≡◌, true, List, Option, None, length, slice_index, slice_index_or}
use Rattle.reo_values.specs.declared.value.Value.{Value}
use Rattle.reo_net_base.specs.declared.joint.Joint.{Joint}
use Rattle.reo_net_base.specs.Sides.{side_count}
use Rattle.reo_net_base.specs.Net.{Net}
use Rattle.reo_net_base.specs.First.{IsFirst}
use Rattle.reo_net_base.specs.Wired.{IsWired}
use Rattle.reo_net_laws.specs.Parts.{SameKnot, is_joint_inside}
use Rattle.reo_net_laws.specs.Keys.{IsFirstIn}
use Rattle.reo_net_laws.specs.Knots.{AreNumbers, in_knot}

-- The first assignment of the part of this number, with the same rows there as a list.
pub record HasFirst (net : Net) (numbers : List ℕ) (turn : ℕ) (rows : List ℕ) (k : ℕ) : Type 0 where
  pub others : List ℕ
  pub items : List (Option Value)
  pub first : IsFirstIn net (in_knot numbers k) turn others items
  pub same : (s : ℕ) → s < side_count net → in_knot numbers k s ≡ true
      → slice_index rows s ≡ slice_index others s

-- Rows that have the first assignment of each part.
abbrev pub HaveFirsts : Net → List ℕ → ℕ → ℕ → List ℕ → Type 0
HaveFirsts net numbers count turn rows = (k : ℕ) → k < count → HasFirst net numbers turn rows k

-- A first colouring with these rows, and with the items of the parts.
pub record IsJoinedFirst (net : Net) (numbers : List ℕ) (count turn : ℕ) (rows : List ℕ)
    (parts : HaveFirsts net numbers count turn rows) : Type 0 where
  pub items : List (Option Value)
  pub first : IsFirst net turn rows items
  pub same : (k j : ℕ) (d : Joint) (lt : k < count) → j < length net.joints
      → is_joint_inside net (in_knot numbers k) (slice_index_or net.joints j d) ≡ true
      → slice_index_or items j None ≡ slice_index_or (parts k lt).items j None

-- Rows that have the first assignment of each part are those of a first colouring, with the items
-- of the parts.
abbrev pub PartsMakeFirst : Type 0
PartsMakeFirst = (net : Net) → IsWired net → (numbers : List ℕ) (count : ℕ)
    → AreNumbers (SameKnot net) (side_count net) numbers count
    → (turn : ℕ) (rows : List ℕ) → length rows ≡ side_count net
    → (parts : HaveFirsts net numbers count turn rows)
    → IsJoinedFirst net numbers count turn rows parts
