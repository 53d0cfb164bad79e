-- Sides that wait in a line.
use Rattle.std.specs.Prelude.{ℕ, ◌+◌, ◌<◌, ◌≤◌, ◌≡◌, ◌≢◌, ◌⊎◌, ◌==◌, ◌||◌, Bool, true, false, List, [], ◌∷◌, length, slice_set, slice_index, slice_index_or}
use Rattle.reo_side_tables.specs.Listing.{StandsIn}
use Rattle.reo_propagate.specs.declared.queue.WaitingSides.{WaitingSides}

-- Whether a list has a number.
abbrev pub among : List ℕ → ℕ → Bool
among [] k = false
among (s ∷ ss) k = (s == k) || among ss k

-- A side waits, and stands in the line.
pub record IsWoken (old new : WaitingSides) (side : ℕ) : Type 0 where
  pub one_each : length new.waits ≡ length old.waits
  pub here : slice_index_or new.waits side true ≡ true
  pub other : (t : ℕ) → t ≢ side → slice_index_or new.waits t true ≡ slice_index_or old.waits t true
  pub stays : (t : ℕ) → StandsIn old.line t → StandsIn new.line t
  pub comes : slice_index_or old.waits side true ≡ false → StandsIn new.line side
  pub from : (m : ℕ) → m < length new.line
      → StandsIn old.line (slice_index new.line m) ⊎ (slice_index new.line m ≡ side)
  pub longer : length new.line ≤ length old.line + 1

-- A side that stood first in the line waits no longer.
pub record IsNext (old new : WaitingSides) (side : ℕ) : Type 0 where
  pub waits : new.waits ≡ slice_set old.waits side false
  pub line : old.line ≡ side ∷ new.line
