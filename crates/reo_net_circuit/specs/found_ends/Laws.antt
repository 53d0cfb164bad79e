-- What the joints of ends say.
use Rattle.std.specs.Prelude.{ℕ, ◌<◌, ◌≡◌, List, length, slice_index_or}
use Rattle.reo_net_base.specs.declared.joint.End.{End}
use Rattle.reo_net_base.specs.declared.joint.Joint.{Joint}
use Rattle.reo_net_base.specs.Net.{Net}
use Rattle.reo_net_base.specs.Wired.{IsWired}
use Rattle.reo_net_base.specs.Ends.{IsGiver, IsTaker}
use Rattle.reo_net_base.specs.Shapes.{SameShapes}
use Rattle.reo_net_circuit.specs.found_ends.Ends.{joint_at, AreEnds}

-- An end that gives is the giver of its joint, one that takes in is the taker of its joint, and
-- each joint is that of its two ends.
pub record FindJoints (net : Net) (table : List (List ℕ)) : Type 0 where
  pub giver : (e : End) (d : Joint) → IsGiver net e
      → (slice_index_or net.joints (joint_at table e) d).giver ≡ e
  pub taker : (e : End) (d : Joint) → IsTaker net e
      → (slice_index_or net.joints (joint_at table e) d).taker ≡ e
  pub of_giver : (j : ℕ) (d : Joint) → j < length net.joints
      → joint_at table (slice_index_or net.joints j d).giver ≡ j
  pub of_taker : (j : ℕ) (d : Joint) → j < length net.joints
      → joint_at table (slice_index_or net.joints j d).taker ≡ j

-- The joints of the ends of a wired circuit are found by giver and by taker.
abbrev pub EndsFindJoints : Type 0
EndsFindJoints = (net : Net) → IsWired net → (table : List (List ℕ))
    → AreEnds net table → FindJoints net table

-- The joints of the ends of a circuit are those of each circuit of the same shape.
abbrev pub EndsStay : Type 0
EndsStay = (old new : Net) → new.joints ≡ old.joints → SameShapes old.primitives new.primitives
    → (table : List (List ℕ)) → AreEnds old table → AreEnds new table
