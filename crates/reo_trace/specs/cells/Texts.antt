-- Cells as codes, and as the bytes that are kept of them.
use Rattle.std.specs.Prelude.{ℕ, ◌≡◌, ◌<◌, ◌≤◌, ◌+◌, ◌==◌, ◌&&◌, not, nat_le, Bool, true, false, List, [], ◌∷◌, ◌++◌, codes, if◌then◌else◌, length, map, min, slice_index}
use Rattle.std.specs.Fmt.{decimal}
use Rattle.reo_net_base.specs.Net.{Net, Side, all_sides}

-- The code of the jam row's cell. That of another cell is its row.
abbrev pub jam_code : ℕ
jam_code = 4294967295

-- What stands before the cell of a side: a space before the first of a primitive, a dot before the second.
abbrev pub before_side : Side → ℕ
before_side side = if side.number == 0 then 32 else 46

-- What stands before the cells of all sides.
abbrev pub befores : Net → List ℕ
befores net = map before_side (all_sides net.primitives)

-- Whether the cell of a code takes more than one byte.
abbrev pub is_wide : ℕ → Bool
is_wide code = nat_le 10 code && not (code == jam_code)

-- The place is the least from another on at which a cell is wide, or the number of cells if none is.
pub record IsNextWide (cells : List ℕ) (from place : ℕ) : Type 0 where
  pub from_on : min from (length cells) ≤ place
  pub in_range : place ≤ length cells
  pub narrow_before : (i : ℕ) → from ≤ i → i < place → is_wide (slice_index cells i) ≡ false
  pub here : place < length cells → is_wide (slice_index cells place) ≡ true

-- The byte that is kept of a cell: the cell itself, where it is one byte.
abbrev pub cell_byte : ℕ → ℕ
cell_byte code = if code == jam_code then 106 else if nat_le 10 code then 0 else 48 + code

-- The bytes that are kept: two for each side.
abbrev pub kept_bytes : List ℕ → List ℕ → List ℕ
kept_bytes [] codes = []
kept_bytes (before ∷ rest) [] = []
kept_bytes (before ∷ rest) (code ∷ more) = before ∷ cell_byte code ∷ kept_bytes rest more

-- The text of a cell, by its code.
abbrev pub code_text : ℕ → List ℕ
code_text code = if code == jam_code then codes "j" else decimal code

-- The text of the cells, each with what stands before it.
abbrev pub cells_text : List ℕ → List ℕ → List ℕ
cells_text [] codes = []
cells_text (before ∷ rest) [] = []
cells_text (before ∷ rest) (code ∷ more) = before ∷ (code_text code ++ cells_text rest more)

-- The bar before the cells, and a space where there are none: each cell has what stands before it.
abbrev pub bar : Bool → List ℕ
bar none = if none then codes " | " else codes " |"
