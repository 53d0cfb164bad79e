-- Families as tables of flags.
use Rattle.std.specs.Prelude.{ℕ, zero, suc, ◌+◌, ◌<◌, ◌≡◌, Bool, List, [], length, slice_get, slice_index_or}
use Rattle.reo_values.specs.declared.value.Value.{Value}
use Rattle.reo_net_base.specs.Net.{Net}
use Rattle.reo_net_circuit.specs.found_ends.Ends.{AreEnds}
use Rattle.reo_joint_values.specs.declared.value.JointValue.{JointValue}
use Rattle.reo_joint_values.specs.declared.value.JointValue.TheVariants.{Flow, RG, GR, GG, Jam}
use Rattle.reo_joint_values.specs.Values.{Names, Family}
use Rattle.reo_side_tables.specs.declared.board.Board.{Board}
use Rattle.reo_side_tables.specs.Boards.{AreBoards}
use Rattle.reo_rows.specs.RowFlags.{flag}

-- The place of a value among the flags of its joint.
abbrev pub code_of : JointValue → ℕ
code_of (Flow n) = n + 4
code_of RG = 0
code_of GR = 1
code_of GG = 2
code_of Jam = 3

-- The value at a place.
abbrev pub value_of : ℕ → JointValue
value_of zero = RG
value_of (suc zero) = GR
value_of (suc (suc zero)) = GG
value_of (suc (suc (suc zero))) = Jam
value_of (suc (suc (suc (suc n)))) = Flow n

-- The family that a table of flags tells.
abbrev pub family_of : List (List Bool) → Family
family_of table j v = flag table j (code_of v)

-- The items by joint and number.
abbrev pub names_of : List (List Value) → Names
names_of items j n = slice_get (slice_index_or items j []) n

-- What a search needs: boards, ends, a list of items for each joint, and a flag for each of its values.
pub record IsReady (net : Net) (boards : List Board) (ends : List (List ℕ)) (items : List (List Value)) (alive : List (List Bool))
    : Type 0 where
  pub boards_are : AreBoards net boards
  pub ends_are : AreEnds net ends
  pub supply : length items ≡ length net.joints
  pub one_set : length alive ≡ length net.joints
  pub width : (j : ℕ) → j < length net.joints → length (slice_index_or alive j []) ≡ length (slice_index_or items j []) + 4
