-- Rows that are allowed at places, told by bytes.
use Rattle.std.specs.Prelude.{ℕ, ◌<◌, ◌≡◌, ◌≢◌, ◌↔◌, List, [], length, slice_index, slice_index_or}
use Rattle.reo_net_base.specs.Net.{Net, Side, all_sides, row_count}
use Rattle.reo_net_base.specs.Sides.{side_count}
use Rattle.reo_net_laws.specs.Ends.{IsRowOf}
use Rattle.reo_refute_base.specs.Places.{place_at, IsAllowed}
use Rattle.reo_refute_parts.specs.declared.places.allowed.AllowedRows.{AllowedRows}

-- A byte for each of so many rows, which is not 0 exactly where the row passes a test.
pub record AreMarked (count : ℕ) (test : ℕ → Type 0) (bytes : List ℕ) : Type 0 where
  pub one_each : length bytes ≡ count
  pub exact : (row : ℕ) → row < count → (slice_index bytes row ≢ 0) ↔ test row

-- A byte for each row of a side's table.
abbrev pub AreBytes : Net → ℕ → (ℕ → Type 0) → List ℕ → Type 0
AreBytes net side test bytes = (d : Side)
    → AreMarked (row_count (slice_index_or (all_sides net.primitives) side d)) test bytes

-- A row agrees with the given row of its side at each place of the side before a place.
pub record Agrees (net : Net) (turn : ℕ) (given : List ℕ) (p side row : ℕ) : Type 0 where
  pub in_table : IsRowOf net side row
  pub before : (q : ℕ) → q < p → (place_at net turn q).side ≡ side
      → (place_at net turn q).number row ≡ (place_at net turn q).number (slice_index given side)

-- For each side the rows that agree at its places before a place.
pub record AreAgreeing (net : Net) (turn : ℕ) (given : List ℕ) (p : ℕ) (bytes : List (List ℕ))
    : Type 0 where
  pub one_each : length bytes ≡ side_count net
  pub rows : (side : ℕ) → side < side_count net
      → AreBytes net side (Agrees net turn given p side) (slice_index_or bytes side [])

-- The rows that are allowed at a place.
pub record AreAllowedRows (net : Net) (turn : ℕ) (given : List ℕ) (p : ℕ) (allowed : AllowedRows)
    : Type 0 where
  pub agreeing : AreAgreeing net turn given p allowed.agreeing
  pub side : allowed.side ≡ (place_at net turn p).side
  pub smaller : AreBytes net allowed.side (IsAllowed net turn given p allowed.side) allowed.smaller
