use Rattle.std.proofs.Common.{◌≡◌, ◌<◌, ℕ, true, slice_index}
use Rattle.reo_net_base.specs.declared.mark.Mark.{Mark}
use Rattle.reo_mark_sets.specs.PlainMarks.{has, open_at}
use Rattle.reo_mark_search.proofs.walking.meets_at.Given as goal

-- Some mark meets one at each place so far.
abbrev pub invariant-loop-end : goal.invariant-loop-end
invariant-loop-end l = (o : ℕ) → o < l.end → (mark : Mark) × (has (open_at l.sets (slice_index l.places o)) mark ≡ true)
