use Rattle.std.proofs.Common.{ℕ, slice_index}
use Rattle.reo_net_base.specs.Rows.{alike}
use Rattle.reo_mark_sets.specs.PlainMarks.{has, open_at}
use Rattle.reo_mark_sets.specs.Tallies.{IsTally}
use Rattle.reo_mark_sets.proofs.sets.MarkSets.tally.Given as goal

-- The tally of those so far.
abbrev pub invariant-loop-index : goal.invariant-loop-index
invariant-loop-index l = IsTally (λ (o : ℕ). alike l.wanted (has (open_at l.self (slice_index l.places o)) l.mark)) l.from l.index l.tally
