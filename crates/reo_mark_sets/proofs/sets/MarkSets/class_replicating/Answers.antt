use Rattle.std.proofs.Common.{◌∙◌, ap, sym, set, slice_index}
use Rattle.reo_mark_sets.specs.declared.marks.PlainMarks.{PlainMarks}
use Rattle.reo_mark_sets.specs.PlainMarks.{marks_at, both}
use Rattle.reo_mark_sets.proofs.Classed.{copying, not_copying}
use Rattle.reo_mark_sets.proofs.sets.MarkSets.class_replicating.Goals as goal

pub returns-then-at : goal.returns-then-at
returns-then-at c = λ turn.
    copying c.args.branches c.args.places.now c.requires.width turn c.args.self.now c.restrict.new.self c.requires.places
    (c.restrict.ensures ∙ ap (λ (m : PlainMarks). set c.args.self.now (slice_index c.args.places.now 0) (both (marks_at c.args.self.now (slice_index c.args.places.now 0)) m)) c.just.ensures)

pub returns-else-at : goal.returns-else-at
returns-else-at c = λ turn. not_copying c.args.branches c.args.places.now c.requires.width turn c.args.self.now (ap (λ (m : PlainMarks). m.flow) (sym c.at.ensures) ∙ c.if-at.false)
