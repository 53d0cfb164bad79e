-- What a search looks up of the sides of a circuit.
use Rattle.std.specs.Prelude.{ℕ, ◌+◌, ◌*◌, ◌<◌, ◌≡◌, List, [], length, slice_index, slice_index_or}
use Rattle.reo_net_base.specs.Net.{Net, row_count}
use Rattle.reo_net_base.specs.Sides.{side_count}
use Rattle.reo_side_tables.specs.declared.board.Flow.{Flow}
use Rattle.reo_side_tables.specs.declared.board.Board.{Board}
use Rattle.reo_side_tables.specs.Listing.{Lists, AreOnce}
use Rattle.reo_side_tables.specs.Marks.{byte_of, side_in, groups_in, common_at_joint, IsJointOf, TakesFlow, GivesFlow, IsApartAt}

-- The joints where a row takes items in, and those where it gives them.
pub record IsFlow (net : Net) (side row : ℕ) (flow : Flow) : Type 0 where
  pub taking : Lists (TakesFlow net side row) flow.taking
  pub giving : Lists (GivesFlow net side row) flow.giving

-- For each joint of a list in turn the bytes of the marks that the groups of a side have there.
pub record AreColumns (net : Net) (side : ℕ) (joints columns : List ℕ) : Type 0 where
  pub size : length columns ≡ length joints * groups_in net side
  pub cell : (m group : ℕ) → m < length joints → group < groups_in net side
      → slice_index columns (m * groups_in net side + group) ≡ byte_of (common_at_joint net side group (slice_index joints m))

-- A board tells the joints of a side, each once; what its groups say there; where each row flows; and which rows are not as
-- their groups at each end of its primitive.
pub record IsBoard (net : Net) (side : ℕ) (board : Board) : Type 0 where
  pub joints : Lists (IsJointOf net side) board.joints
  pub once : AreOnce board.joints
  pub columns : AreColumns net side board.joints board.columns
  pub one_each : length board.flows ≡ row_count (side_in net side)
  pub flows : (row : ℕ) (d : Flow) → row < length board.flows → IsFlow net side row (slice_index_or board.flows row d)
  pub ends : length board.apart ≡ (side_in net side).of.ends
  pub apart : (end : ℕ) → Lists (IsApartAt net side end) (slice_index_or board.apart end [])

-- A board for each of the first n sides.
pub record AreBoardsBelow (net : Net) (n : ℕ) (boards : List Board) : Type 0 where
  pub one_each : length boards ≡ n
  pub each : (side : ℕ) (d : Board) → side < n → IsBoard net side (slice_index_or boards side d)

-- A board for each side.
abbrev pub AreBoards : Net → List Board → Type 0
AreBoards net boards = AreBoardsBelow net (side_count net) boards
