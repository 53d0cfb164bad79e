-- Rows that a column of bytes lets live.
use Rattle.std.specs.Prelude.{◌≡◌, ℕ, ◌<◌, ◌≤◌, ◌==◌, if◌then◌else◌, List, length, slice_index, bit_and}
use Rattle.std.specs.Simd.Lanes.{zip2}

-- A row after its cell was held against what is allowed: 0 where they share no bit, else as it was.
abbrev pub kept_row : ℕ → ℕ → ℕ → ℕ
kept_row allowed cell row = if bit_and cell allowed == 0 then 0 else row

-- Each row by the cell at its place.
abbrev pub kept_rows : List ℕ → ℕ → List ℕ → List ℕ
kept_rows column allowed live = zip2 (kept_row allowed) column live

-- The rows from `from` on and before `to` were held against their cells, and the others stay.
pub record KeptBetween (column : List ℕ) (allowed from to : ℕ) (old new : List ℕ) : Type 0 where
  pub same_length : length new ≡ length old
  pub kept : (k : ℕ) → from ≤ k → k < to
      → slice_index new k ≡ kept_row allowed (slice_index column k) (slice_index old k)
  pub before : (k : ℕ) → k < from → slice_index new k ≡ slice_index old k
  pub after : (k : ℕ) → to ≤ k → slice_index new k ≡ slice_index old k
