-- The items that can stand at the joints of a circuit.
use Rattle.std.specs.Prelude.{ℕ, ◌<◌, ◌≡◌, Bool, true, Option, Some, None, length, slice_index_or}
use Rattle.reo_values.specs.declared.value.Value.{Value}
use Rattle.reo_net_base.specs.declared.mark.Mark.TheVariants.{F}
use Rattle.reo_net_base.specs.declared.joint.End.{End}
use Rattle.reo_net_base.specs.declared.joint.Joint.{Joint}
use Rattle.reo_net_base.specs.Behaviour.{IsPlainRow}
use Rattle.reo_net_base.specs.Net.{Net, behaviour_at, end_of}
use Rattle.reo_net_laws.specs.Ends.{mark_in, from_in}

-- What is read past the end of the joints.
abbrev pub no_joint : Joint
no_joint = record { giver = end_of 0 0; taker = end_of 0 0 }

-- The giver of a joint.
abbrev pub giver_of : Net → ℕ → End
giver_of net j = (slice_index_or net.joints j no_joint).giver

-- The taker of a joint.
abbrev pub taker_of : Net → ℕ → End
taker_of net j = (slice_index_or net.joints j no_joint).taker

-- The item that a row gives at an end of its side, for the one taken at the end that decides.
unfoldable pub given_in : Net → ℕ → End → Option Value → Option Value
given_in net row e taken = (behaviour_at net.primitives e.primitive).given
    ((behaviour_at net.primitives e.primitive).side_of e.end) row e.end taken

-- Whether a row lets an item in at an end of its side.
unfoldable pub passes_in : Net → ℕ → End → Value → Bool
passes_in net row e item = (behaviour_at net.primitives e.primitive).passes
    ((behaviour_at net.primitives e.primitive).side_of e.end) row e.end item

-- A row of an end's side that is no jam row, and by which the end flows.
pub record FlowsAt (net : Net) (giver : End) (row : ℕ) : Type 0 where
  pub plain : IsPlainRow (behaviour_at net.primitives giver.primitive)
      ((behaviour_at net.primitives giver.primitive).side_of giver.end) row
  pub flows : mark_in net row giver ≡ F

-- What the row gives at the end with flow is decided by what comes in at a joint.
pub record Brings (net : Net) (giver : End) (row k : ℕ) : Type 0 where
  pub flows : FlowsAt net giver row
  pub in_range : k < length net.joints
  pub from : ℕ
  pub decides : from_in net row giver ≡ Some from
  pub taker : taker_of net k ≡ end_of giver.primitive from

-- The row lets the one item in at the end that decides, and gives the other for it.
pub record IsGivenFor (net : Net) (giver : End) (row : ℕ) (source : End) (taken item : Value)
    : Type 0 where
  pub let_in : passes_in net row source taken ≡ true
  pub given : given_in net row giver (Some taken) ≡ Some item

-- The row gives the item by the state alone.
pub record GivesAlone (net : Net) (giver : End) (row : ℕ) (item : Value) : Type 0 where
  pub flows : FlowsAt net giver row
  pub alone : from_in net row giver ≡ None
  pub given : given_in net row giver None ≡ Some item

-- The row gives the one item for the other, which comes in at a joint.
pub record GivesFor (net : Net) (giver : End) (row k : ℕ) (taken item : Value) : Type 0 where
  pub brings : Brings net giver row k
  pub given : IsGivenFor net giver row (taker_of net k) taken item

-- The items that can stand at each joint: what rows give there by the state alone, and what they
-- give for an item that can stand at the joint that decides. Nothing else can.
pub data CanStand (net : Net) : ℕ → Value → Type 0 where
  alone : (j row : ℕ) (item : Value) → j < length net.joints
      → GivesAlone net (giver_of net j) row item → CanStand net j item
  passed : (j row k : ℕ) (taken item : Value) → j < length net.joints
      → GivesFor net (giver_of net j) row k taken item → CanStand net k taken
      → CanStand net j item
