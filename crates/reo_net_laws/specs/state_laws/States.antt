-- States of a set of sides that have the same tables.
use Rattle.std.specs.Prelude.{ℕ, ◌+◌, ◌<◌, ◌≡◌, Bool, true, List, Option, length, slice_index, slice_index_or}
use Rattle.reo_values.specs.declared.value.Value.{Value}
use Rattle.reo_net_base.specs.declared.joint.Joint.{Joint}
use Rattle.reo_net_base.specs.Behaviour.{Behaviour, IsEndOf}
use Rattle.reo_net_base.specs.Lawful.{SameShape}
use Rattle.reo_net_base.specs.SameTables.{SameTable}
use Rattle.reo_net_base.specs.Net.{Net, Side, all_sides, row_count, first_side, behaviour_at}
use Rattle.reo_net_base.specs.Sides.{side_count}
use Rattle.reo_net_base.specs.Colouring.{JointMatches}
use Rattle.reo_net_base.specs.Wired.{IsWired, IsOrder}
use Rattle.reo_net_laws.specs.Parts.{IsClosed, IsAssignment, is_joint_inside}
use Rattle.reo_net_laws.specs.Keys.{IsFirstIn}

-- Circuits of the same shape with the same joints, whose sides in a set have the same tables, and the same classes in
-- the rounds of two numbers.
pub record HaveSameTables (turn later : ℕ) (net other : Net) (inside : ℕ → Bool) : Type 0 where
  pub joints : other.joints ≡ net.joints
  pub count : length other.primitives ≡ length net.primitives
  pub shape : (i : ℕ) → i < length net.primitives
      → SameShape (behaviour_at net.primitives i) (behaviour_at other.primitives i)
  pub sides : (i side : ℕ) → i < length net.primitives
      → side < (behaviour_at net.primitives i).sides
      → inside (first_side net.primitives i + side) ≡ true
      → SameTable turn later (behaviour_at net.primitives i) (behaviour_at other.primitives i) side

-- Each row of a side lets each item in.
abbrev pub LetsIn : Behaviour → ℕ → Type 0
LetsIn b side = (row end : ℕ) (item : Value) → row < b.rows side → IsEndOf b side end → b.takes_in end ≡ true
    → b.passes side row end item ≡ true

-- Each row of each side of a set lets each item in.
abbrev pub IsOpen : Net → (ℕ → Bool) → Type 0
IsOpen net inside = (i side row end : ℕ) (item : Value) → i < length net.primitives
    → side < (behaviour_at net.primitives i).sides
    → inside (first_side net.primitives i + side) ≡ true
    → row < (behaviour_at net.primitives i).rows side
    → IsEndOf (behaviour_at net.primitives i) side end
    → (behaviour_at net.primitives i).takes_in end ≡ true
    → (behaviour_at net.primitives i).passes side row end item ≡ true

-- Rows that fit on a set: an assignment but for the items.
pub record AreFitting (net : Net) (inside : ℕ → Bool) (rows : List ℕ) : Type 0 where
  pub one_row : length rows ≡ side_count net
  pub in_tables : (k : ℕ) (d : Side) → k < side_count net → inside k ≡ true
      → slice_index rows k < row_count (slice_index_or (all_sides net.primitives) k d)
  pub matched : (j : ℕ) (d : Joint) → j < length net.joints
      → is_joint_inside net inside (slice_index_or net.joints j d) ≡ true
      → JointMatches net rows (slice_index_or net.joints j d)

-- Rows that fit on a closed set, of which each lets each item in, have items there.
abbrev pub OpenPartsNeedNoItems : Type 0
OpenPartsNeedNoItems = (net : Net) → IsWired net → (order : List ℕ) → IsOrder net order
    → (inside : ℕ → Bool) → IsClosed net inside → IsOpen net inside
    → (rows : List ℕ) → AreFitting net inside rows
    → (items : List (Option Value)) × IsAssignment net inside rows items

-- Rows that are first on a set, with some items.
pub record AreFirstRows (net : Net) (inside : ℕ → Bool) (turn : ℕ) (rows : List ℕ) : Type 0 where
  pub items : List (Option Value)
  pub first : IsFirstIn net inside turn rows items

-- What rows are first on a closed set hangs on the tables of its sides alone, where each row there
-- lets each item in: they are first in each state with the same tables, in each round with the same
-- classes, whatever the items are.
abbrev pub SameTablesSameRows : Type 0
SameTablesSameRows = (turn later : ℕ) (net other : Net) → IsWired net → IsWired other
    → (order : List ℕ) → IsOrder net order → IsOrder other order
    → (inside : ℕ → Bool) → IsClosed net inside → HaveSameTables turn later net other inside
    → IsOpen net inside → IsOpen other inside
    → (rows : List ℕ) → AreFirstRows net inside turn rows → AreFirstRows other inside later rows
