-- The arrows at each side, linked from the last to the first.
use Rattle.std.specs.Prelude.{ℕ, ◌+◌, ◌<◌, ◌≤◌, ◌≡◌, ◌≢◌, List, length, slice_index}

-- One more than the last of the first n arrows that is at a side, or 0.
pub record IsLast (ends : List ℕ) (side n w : ℕ) : Type 0 where
  pub within : w ≤ n
  pub none_after : (j : ℕ) → w ≤ j → j < n → slice_index ends j ≢ side
  pub here : (j : ℕ) → w ≡ j + 1 → slice_index ends j ≡ side

-- The last arrow of each side, and before each arrow the one before it at its side.
pub record AreLinks (ends first next : List ℕ) : Type 0 where
  pub next_length : length next ≡ length ends
  pub in_range : (j : ℕ) → j < length ends → slice_index ends j < length first
  pub firsts : (s : ℕ) → s < length first → IsLast ends s (length ends) (slice_index first s)
  pub nexts : (j : ℕ) → j < length ends → IsLast ends (slice_index ends j) j (slice_index next j)
