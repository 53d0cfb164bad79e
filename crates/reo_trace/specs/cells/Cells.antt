-- The cells of all sides of a circuit, as text that is patched.
use Rattle.std.specs.Prelude.{ℕ, ◌+◌, ◌<◌, ◌≡◌, ◌≢◌, ◌==◌, List, length, if◌then◌else◌, slice_index, slice_index_or}
use Rattle.std.specs.List.{count_by}
use Rattle.reo_net_base.specs.Net.{Net, all_sides, no_side, row_count}
use Rattle.reo_net_base.specs.Sides.{side_count}
use Rattle.reo_trace.specs.declared.cells.cells.Cells.{Cells}
use Rattle.reo_trace.specs.cells.Texts.{befores, is_wide, jam_code, kept_bytes}

-- The code of the cell of a side by these rows: its row, but for the jam row.
abbrev pub code_at : Net → List ℕ → ℕ → ℕ
code_at net rows s =
    if (slice_index rows s + 1) == row_count (slice_index_or (all_sides net.primitives) s no_side) then jam_code else slice_index rows s

-- Cells of the sides of a circuit, by whichever rows. Of the circuit only the number of sides of each primitive counts.
pub record AreCells (net : Net) (cells : Cells) : Type 0 where
  pub one_each : length cells.shown ≡ side_count net
  pub bytes : cells.text ≡ kept_bytes (befores net) cells.shown
  pub counted : cells.wide ≡ count_by is_wide cells.shown

-- The cell of a side is the one by these rows.
abbrev pub IsShown : Net → List ℕ → ℕ → Cells → Type 0
IsShown net rows s cells = slice_index cells.shown s ≡ code_at net rows s

-- The cells of all sides are those by these rows.
abbrev pub AreShown : Net → List ℕ → Cells → Type 0
AreShown net rows cells = (s : ℕ) → s < side_count net → IsShown net rows s cells

-- A list has become what is told at the first n of some places, and has not changed at any other.
pub record IsBrought (told : ℕ → ℕ) (places : List ℕ) (n : ℕ) (old new : List ℕ) : Type 0 where
  pub one_each : length new ≡ length old
  pub brought : (m : ℕ) → m < n → slice_index new (slice_index places m) ≡ told (slice_index places m)
  -- where it was told already, it still is
  pub stay : (s : ℕ) → slice_index old s ≡ told s → slice_index new s ≡ told s
  pub others : (s : ℕ) → ((m : ℕ) → m < n → slice_index places m ≢ s) → slice_index new s ≡ slice_index old s

-- The cells of these sides have become those of these rows, and no others have changed.
abbrev pub AreBrought : Net → List ℕ → List ℕ → Cells → Cells → Type 0
AreBrought net rows sides old new = IsBrought (code_at net rows) sides (length sides) old.shown new.shown

-- A list has taken these rows at these sides, and has not changed at any other.
abbrev pub HasTaken : List ℕ → List ℕ → List ℕ → List ℕ → Type 0
HasTaken rows sides old new = IsBrought (slice_index rows) sides (length sides) old new
