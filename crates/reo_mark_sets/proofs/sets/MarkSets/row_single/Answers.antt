use Rattle.std.proofs.Common.{◌∙◌, ap, set, slice_index}
use Rattle.reo_net_base.specs.declared.form.Form.TheVariants.{Single}
use Rattle.reo_mark_sets.specs.declared.marks.PlainMarks.{PlainMarks}
use Rattle.reo_mark_sets.specs.PlainMarks.{marks_at, both, just}
use Rattle.reo_mark_sets.proofs.Chosen.{single_first, one_pinned}
use Rattle.reo_mark_sets.proofs.sets.MarkSets.row_single.Goals as goal

pub returns : goal.returns
returns c =
    let first = c.first_one-row in
    one_pinned (Single c.args.table) c.args.places.now first.result.row c.args.self.now c.requires.places
    (single_first c.args.table c.args.places.now c.args.self.now c.requires.width c.at.result c.at.ensures first.result.row first.ensures.row)
    c.restrict.new.self c.requires.width
    (c.restrict.ensures ∙ ap (λ (m : PlainMarks). set c.args.self.now (slice_index c.args.places.now 0) (both (marks_at c.args.self.now (slice_index c.args.places.now 0)) m)) (c.just.ensures ∙ ap just c.mark.ensures))
