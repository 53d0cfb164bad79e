-- Rows in their groups.
use Rattle.std.specs.Prelude.{ℕ, ◌≡◌, ◌≢◌, Some, List, [], length, slice_index_or}
use Rattle.reo_net_base.specs.Net.{Net}
use Rattle.reo_net_base.specs.declared.mark.Mark.TheVariants.{F}
use Rattle.reo_net_laws.specs.Ends.{IsRowOf}
use Rattle.reo_side_tables.specs.Listing.{Lists}
use Rattle.reo_side_tables.specs.Marks.{groups_in, group_in, apart_in, common_in, end_at}

-- A row of a group of a side.
pub record IsOfGroup (net : Net) (side group row : ℕ) : Type 0 where
  pub in_table : IsRowOf net side row
  pub here : group_in net side row ≡ group

-- For each group its rows.
pub record ByGroup (net : Net) (side : ℕ) (lists : List (List ℕ)) : Type 0 where
  pub one_each : length lists ≡ groups_in net side
  pub each : (group : ℕ) → Lists (IsOfGroup net side group) (slice_index_or lists group [])

-- A row of a group that is as the group at a joint.
pub record IsAsGroup (net : Net) (side group joint row : ℕ) : Type 0 where
  pub of_group : IsOfGroup net side group row
  pub with : apart_in net side row ≢ Some (end_at net side joint).end

-- A row of a group that flows at a joint, as which it is there.
pub record IsAsSomeGroup (net : Net) (side joint row : ℕ) : Type 0 where
  pub in_table : IsRowOf net side row
  pub with : apart_in net side row ≢ Some (end_at net side joint).end
  pub flows : common_in net side (group_in net side row) (end_at net side joint).end ≡ F
