use Rattle.std.proofs.Common.{◌≡◌, ◌∙◌, true, length, sym, subst, arith}
use Rattle.std.proofs.lemmas.Bool.{and_parts}
use Rattle.reo_mark_sets.specs.declared.marks.PlainMarks.{PlainMarks}
use Rattle.reo_mark_sets.specs.PlainMarks.{has}
use Rattle.reo_mark_sets.proofs.Alone.{holds_sole, hold_more, fixed}
use Rattle.reo_mark_sets.proofs.sets.MarkSets.fixed_at.Goals as goal

pub loop-end-preserved : goal.loop-end-preserved
loop-end-preserved c =
    let both = and_parts c.has.result c.is_sole.result c.if-not-has-is_sole.false in
    let here : has c.at.result c.mark.result ≡ true = sym c.has.ensures ∙ both.0 in
    hold_more c.args.form c.args.places.now c.args.row c.args.self.now c.loop-end.end c.loop-end.invariant
    (holds_sole c.args.form c.args.places.now c.args.row c.args.self.now c.loop-end.end c.mark.result c.mark.ensures
    (subst (λ (m : PlainMarks). has m c.mark.result ≡ true) c.at.ensures here) (c.is_sole.ensures both.1))

pub returns : goal.returns
returns c =
    let all : c.loop-end.end ≡ length c.args.places.now = omega arith in
    fixed c.args.form c.args.places.now c.args.row c.args.self.now c.requires.first (λ o lt. c.loop-end.invariant o (omega (arith, lt, all)))
