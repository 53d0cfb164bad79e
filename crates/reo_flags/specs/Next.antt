-- The next flag of a value.
use Rattle.std.specs.Prelude.{◌≡◌, ℕ, ◌<◌, ◌≤◌, min, Bool, false, not, List, length, slice_index_or}

-- The place is the least from another on whose flag has this value, or the number of flags if none
-- has.
pub record IsNext (value : Bool) (flags : List Bool) (from place : ℕ) : Type 0 where
  pub from_on : min from (length flags) ≤ place
  pub in_range : place ≤ length flags
  pub none_before : (k : ℕ) → from ≤ k → k < place → slice_index_or flags k false ≡ not value
  pub here : place < length flags → slice_index_or flags place false ≡ value
