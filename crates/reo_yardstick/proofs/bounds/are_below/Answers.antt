use Rattle.std.proofs.Common.{ℕ, List, ◌+◌, get_or, take, sym, subst}
use Rattle.std.proofs.lemmas.List.{take_more}
use Rattle.reo_joint_values.specs.declared.value.JointValue.{JointValue}
use Rattle.reo_joint_values.specs.declared.value.JointValue.TheVariants.{Flow}
use Rattle.reo_yardstick.specs.Bounds.{AreBelow}
use Rattle.reo_yardstick.proofs.Bounded.{below_more}
use Rattle.reo_yardstick.proofs.bounds.are_below.Goals as goal

pub loop-value-preserved : goal.loop-value-preserved
loop-value-preserved c =
    let values : List JointValue = c.args.values.now in
    let index : ℕ = c.loop-value.value-index in
    let bound : ℕ = c.args.count + 4 in
    let w : JointValue = get_or values index (Flow 0) in
    subst (λ (l : List JointValue). AreBelow l bound) (sym (take_more values index (Flow 0) c.loop-value-test.true))
    (below_more (take index values) w bound c.loop-value.invariant (c.if-not-is_below.ensures search))
