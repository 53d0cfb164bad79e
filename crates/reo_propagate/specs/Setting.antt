-- Flags that are set anew.
use Rattle.std.specs.Prelude.{ℕ, ◌<◌, ◌≡◌, Bool, true, List, [], length, slice_index, slice_index_or, slice_set}
use Rattle.reo_net_base.specs.Net.{Net}
use Rattle.reo_side_tables.specs.Marks.{IsJointOf}
use Rattle.reo_rows.specs.declared.rows.Rows.{Rows}
use Rattle.reo_rows.specs.RowFlags.{flag, AreAlikeTables}
use Rattle.reo_propagate.specs.declared.state.State.{State}

-- Flags of a table were set, in some rows all of them, and none was cleared.
pub record AreSet (rows : ℕ → Type 0) (old new : List (List Bool)) : Type 0 where
  pub alike : AreAlikeTables old new
  pub stay : (row place : ℕ) → flag old row place ≡ true → flag new row place ≡ true
  pub set : (row place : ℕ) → rows row → place < length (slice_index_or new row [])
      → flag new row place ≡ true

-- A number is one of the first n of a list.
abbrev pub IsOfFirst : List ℕ → ℕ → ℕ → Type 0
IsOfFirst list n k = (m : ℕ) × (m < n) × (slice_index list m ≡ k)

-- A joint of one of the first n sides of a list.
abbrev pub IsJointOfFirst : Net → List ℕ → ℕ → ℕ → Type 0
IsJointOfFirst net sides n j = (m : ℕ) × (m < n) × IsJointOf net (slice_index sides m) j

-- All that is kept of rows, but for their flags, is as it was, and the flags of some sides are set.
pub record AreRowsSet (sides : ℕ → Type 0) (old new : Rows) : Type 0 where
  pub live : AreSet sides old.live new.live
  pub notes : new.notes ≡ old.notes
  pub seen : new.seen ≡ old.seen

-- A side begins anew: all its rows and all values at its joints are there, and it waits.
pub record IsFresh (net : Net) (side : ℕ) (old new : State) : Type 0 where
  pub alive : AreSet (IsJointOf net side) old.alive new.alive
  pub rows : AreRowsSet (λ s. s ≡ side) old.rows new.rows
  pub waits : new.queue.waits ≡ slice_set old.queue.waits side true

-- The first n sides of a list begin anew.
pub record AreFresh (net : Net) (sides : List ℕ) (n : ℕ) (old new : State) : Type 0 where
  pub alive : AreSet (IsJointOfFirst net sides n) old.alive new.alive
  pub rows : AreRowsSet (IsOfFirst sides n) old.rows new.rows
  pub one_each : length new.queue.waits ≡ length old.queue.waits
  pub waits : (m : ℕ) → m < n
      → slice_index_or new.queue.waits (slice_index sides m) true ≡ true
