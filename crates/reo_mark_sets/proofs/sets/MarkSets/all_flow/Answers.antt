use Rattle.std.proofs.Common.{◌≡◌, true, length, refl, subst, arith}
use Rattle.std.proofs.lemmas.Bool.{and_parts}
use Rattle.reo_net_base.specs.declared.form.Form.TheVariants.{Replicating}
use Rattle.reo_net_base.specs.declared.mark.Mark.TheVariants.{F}
use Rattle.reo_mark_sets.specs.declared.marks.PlainMarks.{PlainMarks}
use Rattle.reo_mark_sets.specs.PlainMarks.{has}
use Rattle.reo_mark_sets.proofs.Alone.{holds_sole, hold_more, fixed}
use Rattle.reo_mark_sets.proofs.sets.MarkSets.all_flow.Goals as goal

pub loop-end-preserved : goal.loop-end-preserved
loop-end-preserved c =
    let both = and_parts c.at.result.flow c.is_sole.result c.if-not-at-is_sole.false in
    hold_more (Replicating c.args.branches) c.args.places.now 0 c.args.self.now c.loop-end.end c.loop-end.invariant
    (holds_sole (Replicating c.args.branches) c.args.places.now 0 c.args.self.now c.loop-end.end F refl
    (subst (λ (m : PlainMarks). has m F ≡ true) c.at.ensures both.0) (c.is_sole.ensures both.1))

pub returns : goal.returns
returns c =
    let all : c.loop-end.end ≡ length c.args.places.now = omega arith in
    fixed (Replicating c.args.branches) c.args.places.now 0 c.args.self.now c.requires.first (λ o lt. c.loop-end.invariant o (omega (arith, lt, all)))
