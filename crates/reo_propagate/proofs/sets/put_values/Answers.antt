use Rattle.std.proofs.Common.{◌≡◌, ◌∷◌, ◌++◌, ℕ, [], get_or, take, List, Bool, cond, true, sym, ◌∙◌, ap, subst, arith}
use Rattle.std.specs.Bool.{◌==◌}
use Rattle.std.proofs.Common.{◌&&◌}
use Rattle.std.proofs.lemmas.List.{take_more}
use Rattle.reo_joint_values.specs.declared.value.JointValue.{JointValue}
use Rattle.reo_joint_values.specs.declared.value.JointValue.TheVariants.{Flow}
use Rattle.reo_rows.specs.RowFlags.{flag}
use Rattle.reo_rows.specs.Sets.{code_of}
use Rattle.reo_propagate.specs.ListedSets.{ArePut}
use Rattle.reo_propagate.proofs.Listed.{put_more, put_past}
use Rattle.reo_propagate.proofs.sets.put_values.Goals.{then-code-width, else-code-width}
use Rattle.reo_propagate.proofs.sets.put_values.Goals as goal

pub loop-value-preserved : goal.loop-value-preserved
loop-value-preserved c =
    let joint : ℕ = c.args.joint in
    let index : ℕ = c.loop-value.value-index in
    let values : List JointValue = c.args.values.now in
    let now : List (List Bool) = c.loop-value.alive in
    let w : JointValue = get_or values index (Flow 0) in
    let code : c.code_of-code.result ≡ code_of w = c.code_of-code.ensures in
    subst (λ (l : List JointValue). ArePut joint l c.args.alive.now c.if-code-width.alive) (sym (take_more values index (Flow 0) c.loop-value-test.true)) (elim c.if-code-width.branch [
      | then-code-width x ↦
          subst (ArePut joint (take index values ++ w ∷ []) c.args.alive.now) (sym x.alive-is)
          (put_more joint (take index values) c.args.alive.now now w c.loop-value.invariant x.put.new.self x.put.ensures.alike
          (λ i p. x.put.ensures.flags i p ∙ ap (λ (k : ℕ). cond ((i == joint) && (p == k)) true (flag now i p)) code))
      | else-code-width x ↦
          subst (ArePut joint (take index values ++ w ∷ []) c.args.alive.now) (sym x.alive-is)
          (put_past joint (take index values) c.args.alive.now now w c.loop-value.invariant
          (omega (arith, x.if-code-width.false, c.width.ensures, code, c.loop-value.invariant.alike.width joint)))
    ])
