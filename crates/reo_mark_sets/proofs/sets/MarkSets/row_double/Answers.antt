use Rattle.std.proofs.Common.{◌∙◌, ap, set, slice_index, List}
use Rattle.reo_net_base.specs.declared.form.Form.TheVariants.{Double}
use Rattle.reo_mark_sets.specs.declared.marks.PlainMarks.{PlainMarks}
use Rattle.reo_mark_sets.specs.PlainMarks.{marks_at, both, just}
use Rattle.reo_mark_sets.proofs.Chosen.{double_first, two_pinned}
use Rattle.reo_mark_sets.proofs.sets.MarkSets.row_double.Goals as goal

pub returns : goal.returns
returns c =
    let first = c.first_two-row in
    let S : List PlainMarks = c.args.self.now in
    let N : List PlainMarks = c.restrict.new.self in
    two_pinned (Double c.args.table) c.args.places.now first.result.row S c.requires.places
    (double_first c.args.table c.args.places.now S c.requires.width c.at.result c.at-2.result c.at.ensures c.at-2.ensures first.result.row first.ensures.row)
    N c.restrict-2.new.self c.requires.width
    (c.restrict.ensures ∙ ap (λ (m : PlainMarks). set S (slice_index c.args.places.now 0) (both (marks_at S (slice_index c.args.places.now 0)) m)) (c.just.ensures ∙ ap just c.mark.ensures))
    (c.restrict-2.ensures ∙ ap (λ (m : PlainMarks). set N (slice_index c.args.places.now 1) (both (marks_at N (slice_index c.args.places.now 1)) m)) (c.just-2.ensures ∙ ap just c.mark-2.ensures))
