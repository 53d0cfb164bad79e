use Rattle.std.proofs.Common.{◌≡◌, ◌<◌, ℕ, length, slice_index}
use Rattle.reo_mark_sets.specs.PlainMarks.{marks_at, all_marks}
use Rattle.reo_mark_sets.proofs.sets.MarkSets.reset_all.Given as goal

-- All marks stand at the places so far.
abbrev pub invariant-loop-end : goal.invariant-loop-end
invariant-loop-end l = record {
  one_each : length l.self ≡ length l.initial.self;
  here : (o : ℕ) → o < l.end → marks_at l.self (slice_index l.places o) ≡ all_marks;
  stays : (x : ℕ) → marks_at l.initial.self x ≡ all_marks → marks_at l.self x ≡ all_marks;
}
