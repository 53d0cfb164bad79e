use Rattle.std.proofs.Common.{◌≡◌, ◌<◌, ◌≤◌, ℕ, slice_index, false}
use Rattle.reo_mark_sets.specs.PlainMarks.{has, marks_at}
use Rattle.reo_mark_sets.proofs.sets.MarkSets.first_with.Given as goal

-- None so far has the mark.
abbrev pub invariant-loop-index : goal.invariant-loop-index
invariant-loop-index l = (o : ℕ) → l.from ≤ o → o < l.index → has (marks_at l.self (slice_index l.places o)) l.mark ≡ false
