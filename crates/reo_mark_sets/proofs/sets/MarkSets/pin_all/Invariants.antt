use Rattle.std.proofs.Common.{◌≡◌, ◌<◌, ◌↔◌, ℕ, true, length, slice_index}
use Rattle.reo_net_base.specs.declared.mark.Mark.{Mark}
use Rattle.reo_net_base.specs.Forms.{mark_by}
use Rattle.reo_mark_sets.specs.PlainMarks.{has, marks_at}
use Rattle.reo_mark_sets.proofs.sets.MarkSets.pin_all.Given as goal

-- The marks at the ends so far, and all others as they were.
abbrev pub invariant-loop-end : goal.invariant-loop-end
invariant-loop-end l = record {
  one_each : length l.self ≡ length l.initial.self;
  others : (x : ℕ) → ((o : ℕ) → o < l.end → slice_index l.places o ≡ x → ⊥) → marks_at l.self x ≡ marks_at l.initial.self x;
  done : (o : ℕ) (m : Mark) → o < l.end → (has (marks_at l.self (slice_index l.places o)) m ≡ true)
      ↔ ((has (marks_at l.initial.self (slice_index l.places o)) m ≡ true) × (mark_by l.form l.row o ≡ m));
}
