-- The joint at each end of a circuit.
use Rattle.std.specs.Prelude.{ℕ, ◌<◌, ◌≡◌, true, List, [], length, slice_index, slice_index_or}
use Rattle.reo_net_base.specs.declared.joint.End.{End}
use Rattle.reo_net_base.specs.declared.joint.Joint.{Joint}
use Rattle.reo_net_base.specs.Net.{Net, behaviour_at, is_at}
use Rattle.reo_net_base.specs.Wired.{IsEnd}

-- The number that a table with a list for each primitive has for an end.
abbrev pub joint_at : List (List ℕ) → End → ℕ
joint_at table e = slice_index (slice_index_or table e.primitive []) e.end

-- The table has a number for an end.
abbrev pub HasEnd : List (List ℕ) → End → Type 0
HasEnd table e =
    (e.primitive < length table) × (e.end < length (slice_index_or table e.primitive []))

-- A list for each primitive, with a number for each of its ends: that of a joint at the end.
pub record AreEnds (net : Net) (table : List (List ℕ)) : Type 0 where
  pub one_list : length table ≡ length net.primitives
  pub one_each : (i : ℕ) → i < length net.primitives
      → length (slice_index_or table i []) ≡ (behaviour_at net.primitives i).ends
  pub in_range : (e : End) → IsEnd net.primitives e → joint_at table e < length net.joints
  pub here : (e : End) (d : Joint) → IsEnd net.primitives e
      → is_at e (slice_index_or net.joints (joint_at table e) d) ≡ true
