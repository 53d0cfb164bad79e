use Rattle.std.proofs.Common.{ℕ, ◌<◌, ◌≤◌, slice_index_or}
use Rattle.reo_flags.proofs.dues.search.least_of.Given as goal

-- It is no later than those so far.
abbrev pub invariant-loop-place : goal.invariant-loop-place
invariant-loop-place l = (k : ℕ) → l.from ≤ k → k < l.place → l.least ≤ slice_index_or l.times k 0
