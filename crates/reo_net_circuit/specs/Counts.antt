-- How many joints are at each end.
use Rattle.std.specs.Prelude.{ℕ, ◌<◌, ◌≡◌, List, [], length, slice_index, slice_index_or}
use Rattle.std.specs.List.{count_by}
use Rattle.reo_net_base.specs.declared.joint.End.{End}
use Rattle.reo_net_base.specs.declared.joint.Joint.{Joint}
use Rattle.reo_net_base.specs.Behaviour.{Behaviour}
use Rattle.reo_net_base.specs.Net.{behaviour_at, end_of, is_at}

-- How many joints are at an end.
abbrev pub joints_at : List Joint → End → ℕ
joints_at joints e = count_by (is_at e) joints

-- A number of a table with a row for each primitive.
abbrev pub count_at : List (List ℕ) → ℕ → ℕ → ℕ
count_at counts i end = slice_index (slice_index_or counts i []) end

-- The number of joints at each end.
pub record AreCounts (bs : List Behaviour) (joints : List Joint) (counts : List (List ℕ)) : Type 0 where
  pub rows : length counts ≡ length bs
  pub row_length : (i : ℕ) → i < length bs → length (slice_index_or counts i []) ≡ (behaviour_at bs i).ends
  pub counted : (i end : ℕ) → i < length bs → end < (behaviour_at bs i).ends → count_at counts i end ≡ joints_at joints (end_of i end)

-- Two tables with the same places.
pub record SameRows (old new : List (List ℕ)) : Type 0 where
  pub rows : length new ≡ length old
  pub row_length : (i : ℕ) → length (slice_index_or new i []) ≡ length (slice_index_or old i [])
