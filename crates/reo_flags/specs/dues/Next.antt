-- The next that is due.
use Rattle.std.specs.Prelude.{ℕ, ◌<◌, ◌≤◌, min, List, slice_index_or}

-- The place is the least from another on, before a limit up to which there are times, whose time is this one or sooner, or the limit if there is none.
pub record IsNextDue (times : List ℕ) (from limit by place : ℕ) : Type 0 where
  pub from_on : min from limit ≤ place
  pub in_range : place ≤ limit
  pub none_before : (k : ℕ) → from ≤ k → k < place → by < slice_index_or times k 0
  pub here : place < limit → slice_index_or times place 0 ≤ by
