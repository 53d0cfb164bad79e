use Rattle.std.proofs.Common.{◌≡◌, ℕ, List, get_or, take, sym, subst, arith}
use Rattle.std.proofs.lemmas.List.{take_more}
use Rattle.reo_joint_values.specs.declared.value.JointValue.{JointValue}
use Rattle.reo_joint_values.specs.declared.value.JointValue.TheVariants.{Flow}
use Rattle.reo_rows.specs.Sets.{code_of}
use Rattle.reo_search_tests.specs.Bounds.{AreBelow}
use Rattle.reo_search_tests.proofs.Bounded.{below_more}
use Rattle.reo_search_tests.proofs.bounds.are_below.Goals as goal

pub loop-value-preserved : goal.loop-value-preserved
loop-value-preserved c =
    let values : List JointValue = c.args.values.now in
    let index : ℕ = c.loop-value.value-index in
    let w : JointValue = get_or values index (Flow 0) in
    let code : c.code_of.result ≡ code_of w = c.code_of.ensures in
    subst (λ (l : List JointValue). AreBelow l c.args.bound) (sym (take_more values index (Flow 0) c.loop-value-test.true))
    (below_more (take index values) w c.args.bound c.loop-value.invariant (omega (arith, code, c.if-code_of-bound.false)))
