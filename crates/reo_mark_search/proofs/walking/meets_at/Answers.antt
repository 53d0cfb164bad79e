use Rattle.std.proofs.Common.{◌≡◌, ◌∙◌, ◌||◌, true, sym, subst}
use Rattle.reo_mark_sets.specs.declared.marks.PlainMarks.{PlainMarks}
use Rattle.reo_mark_sets.proofs.Rows.{some_has}
use Rattle.reo_mark_search.proofs.Meeting.{met_next}
use Rattle.reo_mark_search.proofs.walking.meets_at.Goals as goal

pub loop-end-preserved : goal.loop-end-preserved
loop-end-preserved c =
    met_next c.args.sets.now c.args.places.now c.loop-end.end c.loop-end.invariant
    (some_has _ (subst (λ (m : PlainMarks). (m.flow || (m.given || m.required)) ≡ true) c.open_at.ensures (sym c.is_some.ensures ∙ c.if-not-is_some.false)))
