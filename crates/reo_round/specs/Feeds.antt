-- What feeds the joints of a circuit: where a joint's giver has what it gives from.
use Rattle.std.specs.Prelude.{ℕ, ◌<◌, ◌≡◌, ◌≢◌, ◌⊎◌, List, length, slice_index}
use Rattle.reo_net_base.specs.Net.{Net, side_at}
use Rattle.reo_net_base.specs.Sides.{side_count}
use Rattle.reo_joint_values.specs.Standing.{giver_of, taker_of}

-- The code of a side to which no joint goes: what it gives, the state alone decides.
abbrev pub state_code : ℕ
state_code = 4294967295

-- The code of a side to which several joints go: which of them decides what it gives, the row says.
abbrev pub row_code : ℕ
row_code = 4294967294

-- One of the first n joints, which goes to a side.
abbrev pub GoesTo : Net → (n side joint : ℕ) → Type 0
GoesTo net n side joint = (joint < n) × (side_at net (taker_of net joint) ≡ side)

-- The one of them that goes there.
pub record GoesAlone (net : Net) (n side joint : ℕ) : Type 0 where
  pub goes : GoesTo net n side joint
  pub alone : (other : ℕ) → GoesTo net n side other → other ≡ joint

-- None of them goes there.
abbrev pub NoneGoes : Net → (n side : ℕ) → Type 0
NoneGoes net n side = (joint : ℕ) → GoesTo net n side joint → ⊥

-- Two of them go there, or more.
pub record SeveralGo (net : Net) (n side : ℕ) : Type 0 where
  pub first : ℕ
  pub second : ℕ
  pub first_goes : GoesTo net n side first
  pub second_goes : GoesTo net n side second
  pub apart : first ≢ second

-- What a code says of the first n joints: it is the one that goes to the side, or tells that none does, or several.
abbrev pub IsCode : Net → (n side code : ℕ) → Type 0
IsCode net n side code =
    GoesAlone net n side code
    ⊎ (((code ≡ state_code) × NoneGoes net n side) ⊎ ((code ≡ row_code) × SeveralGo net n side))

-- A code for each side, of the first n joints.
pub record AreCodes (net : Net) (n : ℕ) (codes : List ℕ) : Type 0 where
  pub one_each : length codes ≡ side_count net
  pub each : (side : ℕ) → side < side_count net → IsCode net n side (slice_index codes side)

-- A code for each joint: that of the side that it comes from.
pub record AreFeeds (net : Net) (feeds : List ℕ) : Type 0 where
  pub one_each : length feeds ≡ length net.joints
  pub each : (joint : ℕ) → joint < length net.joints
      → IsCode net (length net.joints) (side_at net (giver_of net joint)) (slice_index feeds joint)
