use Rattle.std.proofs.Common.{◌≡◌, ◌<◌, ◌≤◌, ℕ, length, slice_index}
use Rattle.reo_mark_sets.specs.PlainMarks.{marks_at, open_at}
use Rattle.reo_mark_sets.specs.Stars.{spoke_left}
use Rattle.reo_mark_sets.proofs.sets.MarkSets.narrow_star.Given as goal

-- What is left at the ends so far, and all other marks as they were.
abbrev pub invariant-loop-end : goal.invariant-loop-end
invariant-loop-end l = record {
  one_each : length l.self ≡ length l.initial.self;
  others : (x : ℕ) → ((o : ℕ) → l.from ≤ o → o < l.end → slice_index l.places o ≡ x → ⊥) → marks_at l.self x ≡ marks_at l.initial.self x;
  done : (o : ℕ) → l.from ≤ o → o < l.end
      → marks_at l.self (slice_index l.places o) ≡ spoke_left l.star l.aparts l.rests l.others (open_at l.initial.self (slice_index l.places o)) o;
}
