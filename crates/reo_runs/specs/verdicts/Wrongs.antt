-- What is wrong first with the line of a round.
use Rattle.std.specs.Prelude.{ℕ, ◌<◌, ◌≡◌, ◌≢◌, List, [], Option, length, slice_index, slice_index_or}
use Rattle.reo_values.specs.declared.value.Value.{Value}
use Rattle.reo_net_base.specs.Net.{Net}
use Rattle.reo_net_base.specs.Colouring.{RowsFit, IsColouring, IsFilled}
use Rattle.reo_net_base.specs.Moves.{moves_of}
use Rattle.reo_checker.specs.declared.wrong.Wrong.{Wrong}
use Rattle.reo_checker.specs.declared.wrong.Wrong.TheVariants.{Count, Row, Joint, Item}
use Rattle.reo_checker.specs.Faults.{IsJointFault, IsItemFault}
use Rattle.reo_trace.specs.declared.line.Entry.{Entry}
use Rattle.reo_trace.specs.declared.line.RoundLine.{RoundLine}
use Rattle.reo_trace.specs.Entries.{line_for}
use Rattle.reo_runs.specs.declared.verdicts.verdict.Refusal.{Refusal}
use Rattle.reo_runs.specs.declared.verdicts.verdict.Refusal.TheVariants as refusals
use Rattle.reo_runs.specs.verdicts.Said.{AreCounted, HasRows, HasNoRow, AreSaid}

-- The least primitive with a cell that is no row of its side.
pub record IsRowBreak (net : Net) (entries : List Entry) (i : ℕ) : Type 0 where
  pub in_range : i < length net.primitives
  pub out : HasNoRow net entries i
  pub before : (k : ℕ) → k < i → HasRows net entries k

-- What is wrong first with entries: their count, a cell that is no row, a joint that does not match, or an item, as the rows
-- determine it, that does not fit.
abbrev pub IsWrongWith : Net → List Entry → Wrong → Type 0
IsWrongWith net entries Count = AreCounted net entries → ⊥
IsWrongWith net entries (Row i) = AreCounted net entries × IsRowBreak net entries i
IsWrongWith net entries (Joint j) = (rows : List ℕ) × AreSaid net entries rows × IsJointFault net rows j
IsWrongWith net entries (Item j) =
    (rows : List ℕ) × (items : List (Option Value)) × AreSaid net entries rows × RowsFit net rows × IsFilled net rows items
    × IsItemFault net rows items j

-- The rows and items that the line says are a colouring, and the line is not the one that shows them: it has other moves, or
-- it says otherwise whether the round is idle.
abbrev pub HasWrongMoves : Net → ℕ → ℕ → RoundLine → Type 0
HasWrongMoves net ports turn line =
    (rows : List ℕ) × (items : List (Option Value)) × AreSaid net line.entries rows × IsColouring net rows items
    × (line ≢ line_for net turn rows (moves_of net ports rows items))

-- The node that a cause names: that of the joint.
abbrev pub node_of : List (List ℕ) → List ℕ → Wrong → List ℕ
node_of nodes homes Count = []
node_of nodes homes (Row primitive) = []
node_of nodes homes (Joint joint) = slice_index_or nodes (slice_index homes joint) []
node_of nodes homes (Item joint) = slice_index_or nodes (slice_index homes joint) []

-- What is wrong first with the line of a round: its entries, or else its moves.
abbrev pub IsWrongRound : List (List ℕ) → List ℕ → Net → ℕ → ℕ → RoundLine → Refusal → Type 0
IsWrongRound nodes homes net ports turn line (refusals.Line number) = ⊥
IsWrongRound nodes homes net ports turn line (refusals.Ended round) = ⊥
IsWrongRound nodes homes net ports turn line (refusals.Round round wrong node) =
    (round ≡ turn) × (node ≡ node_of nodes homes wrong) × IsWrongWith net line.entries wrong
IsWrongRound nodes homes net ports turn line (refusals.Moves round) = (round ≡ turn) × HasWrongMoves net ports turn line
IsWrongRound nodes homes net ports turn line refusals.End = ⊥
