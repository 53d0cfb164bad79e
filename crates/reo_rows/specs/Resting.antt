-- A side at rest, and a joint there that lost values.
use Rattle.std.specs.Prelude.{◌<◌, ◌≡◌, Bool, List, [], length, slice_index_or}
use Rattle.reo_net_base.specs.Net.{Net, row_count}
use Rattle.reo_net_base.specs.Sides.{side_count}
use Rattle.reo_side_tables.specs.Marks.{side_in, IsJointOf}
use Rattle.reo_rows.specs.declared.resting.Resting.{Resting}

-- It can be looked at: there is the side, and the joint is one of it.
pub record IsResting {P : Type 0} (net : Net) (resting : Resting P) : Type 0 where
  pub side : resting.side < side_count net
  pub joint : IsJointOf net resting.side resting.joint

-- A table has a flag for each row of the side.
pub record HasRowPlaces {P : Type 0} (net : Net) (resting : Resting P) (live : List (List Bool))
    : Type 0 where
  pub side : resting.side < length live
  pub width : length (slice_index_or live resting.side []) ≡ row_count (side_in net resting.side)
