-- Numbers of joints that are noted at ends.
use Rattle.std.specs.Prelude.{ℕ, ◌<◌, ◌≡◌, true, List, [], length, slice_index_or}
use Rattle.reo_net_base.specs.declared.joint.End.{End}
use Rattle.reo_net_base.specs.declared.joint.Joint.{Joint}
use Rattle.reo_net_base.specs.Behaviour.{Behaviour}
use Rattle.reo_net_base.specs.Net.{Net, behaviour_at, is_at}
use Rattle.reo_net_base.specs.Wired.{IsEnd}
use Rattle.reo_net_circuit.specs.found_ends.Ends.{joint_at}

-- A list for each of the first n primitives, with a number for each of its ends.
pub record HasPlaces (bs : List Behaviour) (n : ℕ) (table : List (List ℕ)) : Type 0 where
  pub one_list : length table ≡ n
  pub one_each : (i : ℕ) → i < n
      → length (slice_index_or table i []) ≡ (behaviour_at bs i).ends

-- Two tables with the same places.
pub record AreSamePlaces (old new : List (List ℕ)) : Type 0 where
  pub one_list : length new ≡ length old
  pub one_each : (i : ℕ)
      → length (slice_index_or new i []) ≡ length (slice_index_or old i [])

-- At each end that one of the first n joints is at, its number.
abbrev pub AreNoted : Net → ℕ → List (List ℕ) → Type 0
AreNoted net n table = (e : End) (j : ℕ) (d : Joint) → IsEnd net.primitives e → j < n
    → is_at e (slice_index_or net.joints j d) ≡ true → joint_at table e ≡ j
