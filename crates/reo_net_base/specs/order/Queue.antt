-- Queues of arrows: a list, none twice, with a flag at each that is in it.
use Rattle.std.specs.Prelude.{ℕ, ◌+◌, ◌<◌, ◌≤◌, ◌≡◌, ◌≢◌, Bool, true, false, not, List, length, slice_index, slice_index_or}
use Rattle.std.specs.List.{count_by}

-- Arrows in a row, none twice, each with its flag set, and no other flag is set.
pub record IsQueue (n : ℕ) (order : List ℕ) (placed : List Bool) : Type 0 where
  pub flags : length placed ≡ n
  pub in_range : (m : ℕ) → m < length order → slice_index order m < n
  pub flagged : (m : ℕ) → m < length order → slice_index_or placed (slice_index order m) false ≡ true
  pub there : (j : ℕ) → slice_index_or placed j false ≡ true → (m : ℕ) × (m < length order) × (slice_index order m ≡ j)
  pub once : (m n : ℕ) → m < n → n < length order → slice_index order m ≢ slice_index order n
  pub count : length order + count_by not placed ≡ n

-- A queue without an arrow.
pub record IsEmptyQueue (n : ℕ) (order : List ℕ) (placed : List Bool) : Type 0 where
  pub queue : IsQueue n order placed
  pub none : length order ≡ 0

-- A list that begins with the old one.
pub record Grown (old new : List ℕ) : Type 0 where
  pub longer : length old ≤ length new
  pub kept : (m : ℕ) → m < length old → slice_index new m ≡ slice_index old m

-- All arrows at a side are in the list, and what is new is at that side.
pub record Pushed (ends : List ℕ) (side : ℕ) (old new : List ℕ) (placed : List Bool) : Type 0 where
  pub queue : IsQueue (length ends) new placed
  pub grown : Grown old new
  pub all : (j : ℕ) → j < length ends → slice_index ends j ≡ side → slice_index_or placed j false ≡ true
  pub only : (m : ℕ) → length old ≤ m → m < length new → slice_index ends (slice_index new m) ≡ side

-- Past arrows that are in the list, to one that is not.
pub record IsSkipped (ends : List ℕ) (side : ℕ) (placed : List Bool) (old new : ℕ) : Type 0 where
  pub within : new ≤ old
  pub passed : (j : ℕ) → new ≤ j → j < old → slice_index ends j ≡ side → slice_index_or placed j false ≡ true
  pub here : (j : ℕ) → new ≡ j + 1 → slice_index ends j ≡ side
  pub free : (j : ℕ) → new ≡ j + 1 → slice_index_or placed j false ≡ false
