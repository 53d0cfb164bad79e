-- Bounds that are kept from state to state.
use Rattle.std.specs.Prelude.{ℕ, ◌<◌, ◌≡◌, List, Option, Some, None, Contains, length, slice_index, slice_index_or}
use Rattle.reo_net_base.specs.declared.form.Form.{Form}
use Rattle.reo_net_base.specs.Behaviour.{Behaviour}
use Rattle.reo_net_base.specs.Forms.{HasForm, number_in}
use Rattle.reo_net_base.specs.Net.{Net, behaviour_at, side_at}
use Rattle.reo_net_base.specs.Shapes.{SameShapes}
use Rattle.reo_joint_values.specs.Standing.{giver_of, taker_of}
use Rattle.reo_item_bounds.specs.Bounds.{IsBoundAt}
use Rattle.reo_item_bounds.specs.declared.kept.Bounds.{Bounds}

-- The side that gives at a joint has a form of this number.
pub record HasNumber (net : Net) (j number : ℕ) : Type 0 where
  pub form : Form
  pub has : HasForm form (behaviour_at net.primitives (giver_of net j).primitive)
      ((behaviour_at net.primitives (giver_of net j).primitive).side_of (giver_of net j).end)
  pub number_is : number_in form ≡ number

-- A circuit with its primitives in other states.
abbrev pub with_states : Net → List Behaviour → Net
with_states net states = record { primitives = states; joints = net.joints }

-- What is noted is a bound at a joint in each state in which the side that gives there has a form of this number.
abbrev pub IsBoundBy : Net → List ℕ → ℕ → ℕ → Type 0
IsBoundBy net bounds number j = (states : List Behaviour) → SameShapes net.primitives states
    → HasNumber (with_states net states) j number → IsBoundAt (with_states net states) (slice_index bounds) j

-- A number for each joint of a circuit, and that of a form by which it is a bound, or none.
pub record AreKeptBounds (net : Net) (kept : Bounds) : Type 0 where
  pub one_bound : length kept.bounds ≡ length net.joints
  pub one_number : length kept.numbers ≡ length net.joints
  pub right : (j number : ℕ) → j < length net.joints → slice_index_or kept.numbers j None ≡ Some number
      → IsBoundBy net kept.bounds number j

-- Some joints have no number.
abbrev pub AreUnnumbered : List (Option ℕ) → List ℕ → Type 0
AreUnnumbered numbers joints = (j : ℕ) → Contains joints j → slice_index_or numbers j None ≡ None

-- With each of some joints those that it feeds are among them: they start at the side where it ends.
abbrev pub HoldFed : Net → List ℕ → Type 0
HoldFed net joints = (k j : ℕ) → Contains joints k → j < length net.joints
    → side_at net (taker_of net k) ≡ side_at net (giver_of net j) → Contains joints j
