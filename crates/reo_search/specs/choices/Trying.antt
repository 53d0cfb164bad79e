-- Trying each choice of values at the loop joints.
use Rattle.std.specs.Prelude.{ℕ, ◌<◌, ◌≤◌, ◌≡◌, ◌≢◌, Bool, true, List, [], ◌∷◌, Option, Some, None, Contains, length, take, drop, slice_index, slice_index_or}
use Rattle.std.specs.declared.cmp.Ordering.TheVariants.{Less}
use Rattle.std.specs.Ordering.{nat_cmp}
use Rattle.std.specs.Cmp.Lexicographic.{slice_cmp}
use Rattle.reo_values.specs.declared.value.Value.{Value}
use Rattle.reo_net_base.specs.Net.{Net}
use Rattle.reo_net_base.specs.Sides.{side_count}
use Rattle.reo_weights.specs.Weights.{all_values}
use Rattle.reo_joint_values.specs.Values.{Names, Choice}
use Rattle.reo_joint_values.specs.Chosen.{IsChosen}
use Rattle.reo_side_tables.specs.declared.board.Board.{Board}
use Rattle.reo_rows.specs.declared.basis.Basis.{Basis}
use Rattle.reo_rows.specs.Rows.{AreTables}
use Rattle.reo_rows.specs.RowFlags.{flag}
use Rattle.reo_rows.specs.Sets.{code_of, family_of, IsReady}
use Rattle.reo_propagate.specs.declared.state.State.{State}
use Rattle.reo_walk.specs.declared.place.KeyPlace.{KeyPlace}
use Rattle.reo_walk.specs.Places.{numbers}
use Rattle.reo_search.specs.choices.Remaining.{choices_of}

-- A search may begin anew with these tables.
pub record MayRestart (net : Net) (boards : List Board) (ends : List (List ℕ)) (items : List (List Value)) (state : State) : Type 0 where
  pub ready : IsReady net boards ends items state.alive
  pub tables : AreTables net items state.rows
  pub waits : length state.queue.waits ≡ side_count net

-- A search on this may begin anew with these tables.
abbrev pub MayRestartOn : {P : Type 0} → Net → Basis P → State → Type 0
MayRestartOn net basis = MayRestart net basis.boards.now basis.ends.now basis.items.now

-- Of the assignments of which something holds, one that is first by the numbers at some places.
pub record IsLeastOf (Of : (ℕ → ℕ) → Choice → Type 0) (net : Net) (turn : ℕ) (places : List KeyPlace) (chosen : List ℕ) : Type 0 where
  pub rows : ℕ → ℕ
  pub choice : Choice
  pub is_of : Of rows choice
  pub numbers_are : numbers net turn places rows ≡ chosen
  pub least : (others : ℕ → ℕ) (other_choice : Choice) → Of others other_choice
      → slice_cmp nat_cmp (numbers net turn places others) chosen ≢ Less

-- The numbers of the first of them, if there is one.
abbrev pub IsFirstOf : ((ℕ → ℕ) → Choice → Type 0) → Net → ℕ → List KeyPlace → Option (List ℕ) → Type 0
IsFirstOf Of net turn places None = (rows : ℕ → ℕ) (choice : Choice) → Of rows choice → ⊥
IsFirstOf Of net turn places (Some chosen) = IsLeastOf Of net turn places chosen

-- An assignment with any values, of which these are those at the first of some joints.
pub record HasCodes (net : Net) (names : Names) (inside : ℕ → Bool) (loops codes : List ℕ) (rows : ℕ → ℕ) (choice : Choice) : Type 0 where
  pub chosen : IsChosen net names inside (all_values names) rows choice
  pub codes_are : (m : ℕ) → m < length codes → code_of (choice (slice_index loops m)) ≡ slice_index codes m

-- The assignments with some values at the first of some joints are those of what is left, and these values alone are left there.
pub record AreLeftWith (net : Net) (names : Names) (inside : ℕ → Bool) (loops codes : List ℕ) (alive : List (List Bool)) : Type 0 where
  pub kept : (rows : ℕ → ℕ) (choice : Choice) → HasCodes net names inside loops codes rows choice → IsChosen net names inside (family_of alive) rows choice
  pub only : (rows : ℕ → ℕ) (choice : Choice) → IsChosen net names inside (family_of alive) rows choice → HasCodes net names inside loops codes rows choice
  pub alone : (m c : ℕ) → m < length codes → flag alive (slice_index loops m) c ≡ true → c ≡ slice_index codes m

-- Each assignment with some values at the first of some joints has at each of them one of the values of its list.
abbrev pub CoverWith : Net → Names → (ℕ → Bool) → List ℕ → List ℕ → List (List ℕ) → Type 0
CoverWith net names inside loops codes left = (rows : ℕ → ℕ) (choice : Choice) → HasCodes net names inside loops codes rows choice
    → (m : ℕ) → m < length loops → Contains (slice_index_or left m []) (code_of (choice (slice_index loops m)))

-- What is still open with some values at the first of some joints: fewer values for each joint, which those assignments have.
pub record IsOpen (net : Net) (names : Names) (inside : ℕ → Bool) (loops codes : List ℕ) (left kept : List (List ℕ)) : Type 0 where
  pub one_each : length kept ≡ length loops
  pub cover : CoverWith net names inside loops codes kept
  pub fewer : choices_of (drop (length codes) kept) ≤ choices_of (drop (length codes) left)

-- And the value at the next of them is one of a list.
pub record HasNextOf (net : Net) (names : Names) (inside : ℕ → Bool) (loops codes list : List ℕ) (rows : ℕ → ℕ) (choice : Choice) : Type 0 where
  pub has : HasCodes net names inside loops codes rows choice
  pub next : Contains list (code_of (choice (slice_index loops (length codes))))

-- The values at the next joints came to a list, as long as one alone is left there.
pub record AreSingles (left : List (List ℕ)) (old new : List ℕ) : Type 0 where
  pub within : length new ≤ length left
  pub longer : length old ≤ length new
  pub kept : take (length old) new ≡ old
  pub same : (m : ℕ) → m < length old → slice_index new m ≡ slice_index old m
  pub only : (m : ℕ) → length old ≤ m → m < length new → slice_index_or left m [] ≡ slice_index new m ∷ []
  pub choices : choices_of (drop (length new) left) ≡ choices_of (drop (length old) left)
