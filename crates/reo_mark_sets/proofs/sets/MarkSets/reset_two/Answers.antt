use Rattle.std.proofs.Common.{◌∙◌, List, ap, set, slice_index, sym, subst}
use Rattle.reo_mark_sets.specs.declared.marks.PlainMarks.{PlainMarks}
use Rattle.reo_mark_sets.specs.PlainMarks.{all_marks}
use Rattle.reo_mark_sets.specs.Standing.{AreAll}
use Rattle.reo_mark_sets.proofs.Resetting.{all_two}
use Rattle.reo_mark_sets.proofs.sets.MarkSets.reset_two.Goals as goal

pub returns : goal.returns
returns c =
    subst (AreAll c.args.places.now c.args.self.now) (sym (c.reset-2.ensures ∙ ap (λ (s : List PlainMarks). set s (slice_index c.args.places.now 1) all_marks) c.reset.ensures))
    (all_two c.args.self.now c.args.places.now c.requires.width c.requires.places)
