-- What a row says of the ends of its side, by the joints there.
use Rattle.std.specs.Prelude.{ℕ, ◌<◌, ◌≡◌, ◌↔◌, Bool, true, false, Option, Some, length, slice_index_or}
use Rattle.reo_net_base.specs.declared.mark.Mark.{Mark}
use Rattle.reo_net_base.specs.declared.mark.Mark.TheVariants.{F, G, R, J}
use Rattle.reo_net_base.specs.declared.joint.End.{End}
use Rattle.reo_net_base.specs.declared.joint.Joint.{Joint}
use Rattle.reo_net_base.specs.Sides.{side_count}
use Rattle.reo_net_base.specs.Net.{Net, Side, all_sides, row_count, behaviour_at, end_of, side_at}
use Rattle.reo_net_base.specs.Wired.{IsWired, IsEnd}
use Rattle.reo_net_laws.specs.Keys.{class_of}

-- The mark that a row has at an end of its side.
unfoldable pub mark_in : Net → ℕ → End → Mark
mark_in net row e = (behaviour_at net.primitives e.primitive).mark ((behaviour_at net.primitives e.primitive).side_of e.end) row e.end

-- The end that decides what a row gives at an end of its side.
unfoldable pub from_in : Net → ℕ → End → Option ℕ
from_in net row e = (behaviour_at net.primitives e.primitive).from ((behaviour_at net.primitives e.primitive).side_of e.end) row e.end

-- A row of the table of a side.
abbrev pub IsRowOf : Net → ℕ → ℕ → Type 0
IsRowOf net side row = (d : Side)
    → row < row_count (slice_index_or (all_sides net.primitives) side d)

-- The same mark.
abbrev pub same_mark : Mark → Mark → Bool
same_mark F F = true
same_mark F G = false
same_mark F R = false
same_mark F J = false
same_mark G F = false
same_mark G G = true
same_mark G R = false
same_mark G J = false
same_mark R F = false
same_mark R G = false
same_mark R R = true
same_mark R J = false
same_mark J F = false
same_mark J G = false
same_mark J R = false
same_mark J J = true

-- Both flow, both jam, or neither flows or jams.
abbrev pub same_kind : Mark → Mark → Bool
same_kind F F = true
same_kind F G = false
same_kind F R = false
same_kind F J = false
same_kind G F = false
same_kind G G = true
same_kind G R = true
same_kind G J = false
same_kind R F = false
same_kind R G = true
same_kind R R = true
same_kind R J = false
same_kind J F = false
same_kind J G = false
same_kind J R = false
same_kind J J = true

-- At each joint's end at a side the marks of two rows pass a test.
pub record MarksAgree (net : Net) (side : ℕ) (test : Mark → Mark → Bool) (row other : ℕ) : Type 0 where
  pub givers : (j : ℕ) (d : Joint) → j < length net.joints
      → side_at net (slice_index_or net.joints j d).giver ≡ side
      → test (mark_in net row (slice_index_or net.joints j d).giver) (mark_in net other (slice_index_or net.joints j d).giver) ≡ true
  pub takers : (j : ℕ) (d : Joint) → j < length net.joints
      → side_at net (slice_index_or net.joints j d).taker ≡ side
      → test (mark_in net row (slice_index_or net.joints j d).taker) (mark_in net other (slice_index_or net.joints j d).taker) ≡ true

-- Rows of a side are one exactly where they have the same marks at each joint.
abbrev pub RowsDiffer : Type 0
RowsDiffer = (net : Net) → IsWired net → (side row other : ℕ) → side < side_count net
    → IsRowOf net side row → IsRowOf net side other
    → MarksAgree net side same_mark row other ↔ (row ≡ other)

-- Rows of a side are of one class exactly where they flow at the same joints and jam at the same
-- joints.
abbrev pub ClassesDiffer : Type 0
ClassesDiffer = (net : Net) → IsWired net → (turn side row other : ℕ) → side < side_count net
    → IsRowOf net side row → IsRowOf net side other
    → MarksAgree net side same_kind row other ↔ (class_of net turn side row ≡ class_of net turn side other)

-- Each end that gives is the giver of one joint, and each end that takes in is the taker of one
-- joint.
pub record AreEndsJoined (net : Net) : Type 0 where
  pub giver_of : (e : End) → IsEnd net.primitives e
      → (behaviour_at net.primitives e.primitive).takes_in e.end ≡ false
      → (j : ℕ) × (j < length net.joints) × ((d : Joint) → (slice_index_or net.joints j d).giver ≡ e)
  pub taker_of : (e : End) → IsEnd net.primitives e
      → (behaviour_at net.primitives e.primitive).takes_in e.end ≡ true
      → (j : ℕ) × (j < length net.joints) × ((d : Joint) → (slice_index_or net.joints j d).taker ≡ e)
  pub one_giver : (j k : ℕ) (d : Joint) → j < length net.joints → k < length net.joints
      → (slice_index_or net.joints j d).giver ≡ (slice_index_or net.joints k d).giver → j ≡ k
  pub one_taker : (j k : ℕ) (d : Joint) → j < length net.joints → k < length net.joints
      → (slice_index_or net.joints j d).taker ≡ (slice_index_or net.joints k d).taker → j ≡ k

-- What each circuit keeps of its ends and joints.
abbrev pub EndsAreJoined : Type 0
EndsAreJoined = (net : Net) → IsWired net → AreEndsJoined net

-- The one joint at the end that decides what a row gives: items come in there, with flow, at the
-- side that gives.
pub record IsSource (net : Net) (row : ℕ) (giver : End) (from joint : ℕ) : Type 0 where
  pub in_range : joint < length net.joints
  pub taker : (d : Joint) → (slice_index_or net.joints joint d).taker ≡ end_of giver.primitive from
  pub only : (j : ℕ) (d : Joint) → j < length net.joints
      → (slice_index_or net.joints j d).taker ≡ end_of giver.primitive from → j ≡ joint
  pub same_side : side_at net (end_of giver.primitive from) ≡ side_at net giver
  pub flows : mark_in net row (end_of giver.primitive from) ≡ F

-- Where an end decides what a row gives at a joint with flow, that end is the taker of exactly one
-- joint, which flows.
abbrev pub SourceIsTaken : Type 0
SourceIsTaken = (net : Net) → IsWired net → (k row from : ℕ) (d : Joint) → k < length net.joints
    → row < (behaviour_at net.primitives (slice_index_or net.joints k d).giver.primitive).rows ((behaviour_at net.primitives (slice_index_or net.joints k d).giver.primitive).side_of (slice_index_or net.joints k d).giver.end)
    → mark_in net row (slice_index_or net.joints k d).giver ≡ F
    → from_in net row (slice_index_or net.joints k d).giver ≡ Some from
    → (joint : ℕ) × IsSource net row (slice_index_or net.joints k d).giver from joint
