-- The tables of rows at the beginning.
use Rattle.std.specs.Prelude.{ℕ, ◌+◌, ◌<◌, ◌≡◌, Bool, true, false, None, List, [], length, replicate, slice_index_or}
use Rattle.reo_values.specs.declared.value.Value.{Value}
use Rattle.reo_net_base.specs.Net.{Net, row_count}
use Rattle.reo_side_tables.specs.Marks.{side_in, groups_in}
use Rattle.reo_rows.specs.declared.groups.Group.{Group}

-- Nothing is noted of a group.
abbrev pub nothing_noted : Group
nothing_noted = record { first = None; other = None }

-- For each of the first n sides a flag for each row, all set.
pub record AreRowFlags (net : Net) (n : ℕ) (live : List (List Bool)) : Type 0 where
  pub one_each : length live ≡ n
  pub row : (side : ℕ) → side < n → slice_index_or live side [] ≡ replicate (row_count (side_in net side)) true

-- For each of the first n sides each group, of which nothing is noted.
pub record AreGroupNotes (net : Net) (n : ℕ) (notes : List (List Group)) : Type 0 where
  pub one_each : length notes ≡ n
  pub row : (side : ℕ) → side < n → slice_index_or notes side [] ≡ replicate (groups_in net side) nothing_noted

-- For each of the first n joints a flag for each value without flow and each item, none set.
pub record AreValueFlags (items : List (List Value)) (n : ℕ) (seen : List (List Bool)) : Type 0 where
  pub one_each : length seen ≡ n
  pub row : (j : ℕ) → j < n → slice_index_or seen j [] ≡ replicate (length (slice_index_or items j []) + 4) false
