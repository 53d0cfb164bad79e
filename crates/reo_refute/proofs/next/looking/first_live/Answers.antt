use Rattle.std.proofs.Common.{◌≡◌, ◌<◌, ℕ, length, get_or, false, ap, sym, ◌∙◌, arith, below_more}
use Rattle.reo_joint_values.specs.declared.value.JointValue.TheVariants.{Jam}
use Rattle.reo_refute_base.specs.Live.{values_of}
use Rattle.reo_refute_live.specs.support.Families.{family_of}
use Rattle.reo_refute.proofs.next.LiveValues.{is_there, none_of}
use Rattle.reo_refute.proofs.next.looking.first_live.Goals as goal

pub returns-then-is_live : goal.returns-then-is_live
returns-then-is_live c =
    let lt : c.loop-place.place < length (values_of c.args.lists.now c.args.joint) = omega (arith, c.loop-place-test.true, c.value_count-place-end.ensures) in
    is_there c.args.lists.now (family_of c.args.live.now.table) c.args.joint c.loop-place.place c.value_at-value.result lt c.value_at-value.ensures (sym c.is_live.ensures ∙ c.if-is_live.true)

pub loop-place-preserved : goal.loop-place-preserved
loop-place-preserved c =
    below_more (λ (k : ℕ). family_of c.args.live.now.table c.args.joint (get_or (values_of c.args.lists.now c.args.joint) k Jam) ≡ false) c.loop-place.place c.loop-place.invariant
    (ap (family_of c.args.live.now.table c.args.joint) (sym c.value_at-value.ensures) ∙ sym c.is_live.ensures ∙ c.if-is_live.false)

pub returns : goal.returns
returns c = none_of (family_of c.args.live.now.table c.args.joint) (values_of c.args.lists.now c.args.joint) (λ k lt. c.loop-place.invariant k (omega (arith, lt, c.loop-place-test.false, c.value_count-place-end.ensures)))
