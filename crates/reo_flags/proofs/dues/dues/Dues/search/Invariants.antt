use Rattle.std.proofs.Common.{◌≡◌, ℕ, ◌-◌, ◌<◌, ◌≤◌, slice_index_or}
use Rattle.reo_flags.proofs.dues.dues.Dues.search.Given as goal

-- None so far is due, and the times stay.
abbrev pub invariant-loop-place : goal.invariant-loop-place
invariant-loop-place l = record {
  from : l.from ≤ l.place;
  none : (k : ℕ) → l.from ≤ k → k < l.place → l.by < slice_index_or l.initial.self k 0;
  stays : l.self ≡ l.initial.self;
}

abbrev pub decreases-loop-place : goal.decreases-loop-place
decreases-loop-place l = l.limit - l.place
