-- Where rows flow, while boards are made.
use Rattle.std.specs.Prelude.{ℕ, ◌<◌, ◌≡◌, ◌≢◌, ◌==◌, Bool, not, cond, List, [], ◌∷◌, ◌++◌, length, slice_index, slice_index_or}
use Rattle.reo_net_base.specs.declared.mark.Mark.TheVariants.{F}
use Rattle.reo_net_base.specs.Net.{Net}
use Rattle.reo_joint_values.specs.Values.{giver_side}
use Rattle.reo_side_tables.specs.declared.board.Flow.{Flow}
use Rattle.reo_side_tables.specs.Listing.{StandsIn}
use Rattle.reo_side_tables.specs.Marks.{mark_at_joint, IsJointOf}

-- Whether a side gives at a joint.
abbrev pub gives_at : Net → ℕ → ℕ → Bool
gives_at net side j = giver_side net j == side

-- A row flows at a joint of its side, which gives there or does not.
pub record FlowsAt (net : Net) (side row : ℕ) (gives : Bool) (j : ℕ) : Type 0 where
  pub of_side : IsJointOf net side j
  pub flows : mark_at_joint net side row j ≡ F
  pub way : gives_at net side j ≡ gives

-- The joints where a row gives with flow, or those where it takes in.
abbrev pub joints_of_flow : Bool → Flow → List ℕ
joints_of_flow gives flow = cond gives flow.giving flow.taking

-- The joints of the n-th row.
abbrev pub flow_at : List Flow → ℕ → Flow → Bool → List ℕ
flow_at flows row d gives = joints_of_flow gives (slice_index_or flows row d)

-- Each row flows at the joints of its lists.
abbrev pub AreSound : Net → ℕ → List Flow → Type 0
AreSound net side flows = (row m : ℕ) (d : Flow) (gives : Bool) → row < length flows → m < length (flow_at flows row d gives)
    → FlowsAt net side row gives (slice_index (flow_at flows row d gives) m)

-- What stood in the lists stands there.
pub record AreMore (old new : List Flow) : Type 0 where
  pub one_each : length new ≡ length old
  pub stays : (row j : ℕ) (d : Flow) (gives : Bool) → row < length old → StandsIn (flow_at old row d gives) j → StandsIn (flow_at new row d gives) j

-- A joint came at the end of a list of a row.
pub record IsFlowAdded (old new : List Flow) (row joint : ℕ) (gives : Bool) : Type 0 where
  pub one_each : length new ≡ length old
  pub here : (d : Flow) → flow_at new row d gives ≡ flow_at old row d gives ++ joint ∷ []
  pub elsewhere : (d : Flow) → flow_at new row d (not gives) ≡ flow_at old row d (not gives)
  pub other : (k : ℕ) (d : Flow) → k ≢ row → slice_index_or new k d ≡ slice_index_or old k d

-- What adding a joint to the lists of some rows comes to: each of those that flow there has it.
pub record AreAdded (net : Net) (side joint : ℕ) (rows : ℕ → Type 0) (old new : List Flow) : Type 0 where
  pub sound : AreSound net side old → AreSound net side new
  pub more : AreMore old new
  pub stands : (row : ℕ) (d : Flow) → rows row → row < length old → mark_at_joint net side row joint ≡ F
      → StandsIn (flow_at new row d (gives_at net side joint)) joint

-- No row has joints yet.
pub record AreBlank (count : ℕ) (flows : List Flow) : Type 0 where
  pub one_each : length flows ≡ count
  pub blank : (row : ℕ) (d : Flow) (gives : Bool) → row < length flows → flow_at flows row d gives ≡ []
