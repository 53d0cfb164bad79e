-- Tables by which the parts of a circuit are searched.
use Rattle.std.specs.Prelude.{ℕ, ◌+◌, ◌<◌, ◌≡◌, Bool, true, false, List, [], length, slice_index_or}
use Rattle.reo_net_base.specs.Net.{Net, row_count}
use Rattle.reo_net_base.specs.Sides.{side_count}
use Rattle.reo_side_tables.specs.declared.board.Board.{Board}
use Rattle.reo_side_tables.specs.Boards.{IsBoard}
use Rattle.reo_side_tables.specs.Marks.{side_in, groups_in}
use Rattle.reo_reach.specs.Supplied.{items_at, AreShort, HasPlaces, IsReached, IsSupply}
use Rattle.reo_joint_values.specs.Many.{IsJointIn}
use Rattle.reo_rows.specs.Rows.{AreTables}
use Rattle.reo_rows.specs.Sets.{IsReady}
use Rattle.reo_search_tables.specs.declared.tables.SearchTables.{SearchTables}

-- A place for each side and each joint, and no long list.
pub record HasRoom (net : Net) (tables : SearchTables) : Type 0 where
  pub boards : length tables.boards ≡ side_count net
  pub places : HasPlaces net tables.supply
  pub short : AreShort tables.supply
  pub alive : length tables.state.alive ≡ length net.joints
  pub seen : length tables.state.rows.seen ≡ length net.joints
  pub live : length tables.state.rows.live ≡ side_count net
  pub notes : length tables.state.rows.notes ≡ side_count net
  pub waits : length tables.state.queue.waits ≡ side_count net

-- The board of a side, a flag for each of its rows, and a note for each of its groups.
pub record IsSideRight (net : Net) (tables : SearchTables) (side : ℕ) : Type 0 where
  pub board : (d : Board) → IsBoard net side (slice_index_or tables.boards side d)
  pub rows : length (slice_index_or tables.state.rows.live side []) ≡ row_count (side_in net side)
  pub groups : length (slice_index_or tables.state.rows.notes side []) ≡ groups_in net side

-- The items of a joint, and two flags for each of its values.
pub record IsJointRight (net : Net) (tables : SearchTables) (j : ℕ) : Type 0 where
  pub reached : IsReached net tables.supply j
  pub values : length (slice_index_or tables.state.alive j []) ≡ length (items_at tables.supply j) + 4
  pub marks : length (slice_index_or tables.state.rows.seen j []) ≡ length (items_at tables.supply j) + 4

-- Tables that are right at the sides of a set and at the joints that start there.
pub record AreRightOn (net : Net) (inside : ℕ → Bool) (tables : SearchTables) : Type 0 where
  pub sides : (side : ℕ) → side < side_count net → inside side ≡ true → IsSideRight net tables side
  pub joints : (j : ℕ) → IsJointIn net inside j → IsJointRight net tables j

-- The tables are those of a circuit: what can stand at its joints, and boards and flags for it.
pub record AreReady (net : Net) (ends : List (List ℕ)) (tables : SearchTables) : Type 0 where
  pub supply : IsSupply net tables.supply
  pub short : AreShort tables.supply
  pub ready : IsReady net tables.boards ends tables.supply.items tables.state.alive
  pub flags : AreTables net tables.supply.items tables.state.rows
  pub waits : length tables.state.queue.waits ≡ side_count net

-- Two sets have no side in common.
abbrev pub AreApart : (ℕ → Bool) → (ℕ → Bool) → Type 0
AreApart inside other = (s : ℕ) → inside s ≡ true → other s ≡ false
