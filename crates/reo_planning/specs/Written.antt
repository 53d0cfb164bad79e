-- Rows that are written down at some sides.
use Rattle.std.specs.Prelude.{ℕ, ◌<◌, ◌≡◌, true, false, List, length, slice_index}
use Rattle.reo_propagate.specs.Queues.{among}

-- At some sides the rows are now those of a list of all rows, and all others stay.
pub record AreWritten (sides from old new : List ℕ) : Type 0 where
  pub one_each : length new ≡ length old
  pub here : (s : ℕ) → s < length old → among sides s ≡ true
      → slice_index new s ≡ slice_index from s
  pub others : (s : ℕ) → among sides s ≡ false → slice_index new s ≡ slice_index old s
