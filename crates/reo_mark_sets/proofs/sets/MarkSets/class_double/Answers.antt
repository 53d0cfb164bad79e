use Rattle.std.proofs.Common.{◌∙◌, ap, set, slice_index, List}
use Rattle.reo_mark_sets.specs.declared.marks.PlainMarks.{PlainMarks}
use Rattle.reo_mark_sets.proofs.Classed.{double_classed}
use Rattle.reo_mark_sets.proofs.sets.MarkSets.class_double.Goals as goal

pub returns : goal.returns
returns c =
    double_classed c.args.table c.args.places.now c.requires.width c.args.self.now c.put-2.new.self c.requires.places c.at.result c.at-2.result c.classed_two-least.result.pair.first c.classed_two-least.result.pair.second c.at.ensures c.at-2.ensures
    (c.put-2.ensures ∙ ap (λ (s : List PlainMarks). set s (slice_index c.args.places.now 1) c.classed_two-least.result.pair.second) c.put.ensures)
    c.classed_two-least.result.class c.classed_two-least.ensures.taken c.classed_two-least.ensures.first c.classed_two-least.ensures.second
