-- The beginning of a search.
use Rattle.std.specs.Prelude.{ℕ, ◌+◌, ◌<◌, ◌≡◌, Bool, true, List, [], length, slice_index_or}
use Rattle.reo_values.specs.declared.value.Value.{Value}
use Rattle.reo_net_base.specs.Net.{Net}
use Rattle.reo_joint_values.specs.declared.value.JointValue.{JointValue}
use Rattle.reo_joint_values.specs.Values.{Family}
use Rattle.reo_side_tables.specs.declared.board.Board.{Board}
use Rattle.reo_rows.specs.Rows.{AreTables}
use Rattle.reo_rows.specs.Sets.{code_of, family_of, names_of, IsReady}
use Rattle.reo_propagate.specs.declared.state.State.{State}
use Rattle.reo_propagate.specs.Narrow.{IsTended, nobody}

-- The first n joints have a flag for each of their values, set where a family has the value.
pub record AreFlags (items : List (List Value)) (n : ℕ) (family : Family) (alive : List (List Bool))
    : Type 0 where
  pub one_each : length alive ≡ n
  pub width : (j : ℕ) → j < n
      → length (slice_index_or alive j []) ≡ length (slice_index_or items j []) + 4
  pub flags : (j : ℕ) (v : JointValue) → j < n → code_of v < length (slice_index_or items j []) + 4
      → family_of alive j v ≡ family j v

-- A search may go on: its tables have their places, and it is tended.
pub record IsSearch (net : Net) (boards : List Board) (ends : List (List ℕ))
    (items : List (List Value)) (inside : ℕ → Bool) (state : State) : Type 0 where
  pub ready : IsReady net boards ends items state.alive
  pub tables : AreTables net items state.rows
  pub tended : IsTended net (names_of items) inside (nobody net) state.alive state.rows state.queue

-- Each value with an item of its list is there.
abbrev pub IsWhole : Net → List (List Value) → State → Type 0
IsWhole net items state = (j : ℕ) (v : JointValue) → j < length net.joints
    → code_of v < length (slice_index_or items j []) + 4 → family_of state.alive j v ≡ true
