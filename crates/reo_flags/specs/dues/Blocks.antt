-- Blocks of 64 times.
use Rattle.std.specs.Prelude.{ℕ, ◌≡◌, ◌+◌, ◌/◌, ◌<◌, ◌≤◌, List, length, slice_index_or}

-- There is a time for each block, the last of which may be empty, that is no later than those in the block, and one for all that is no later than any of these.
pub record AreLeast (times least : List ℕ) (soonest : ℕ) : Type 0 where
  pub enough : length least ≡ length times / 64 + 1
  pub no_later : (k : ℕ) → k < length times → slice_index_or least (k / 64) 0 ≤ slice_index_or times k 0
  pub soonest_is : (b : ℕ) → b < length least → soonest ≤ slice_index_or least b 0
