use Rattle.std.proofs.Common.{ℕ, Bool, sym, ◌∙◌, subst, arith}
use Rattle.reo_rows.specs.RowFlags.{flag}
use Rattle.reo_search.specs.choices.Remaining.{AreCodesAt}
use Rattle.reo_search.proofs.choices.Remains.{picked_yes, picked_no, codes_end}
use Rattle.reo_search.proofs.choices.weighing.codes_at.Goals as goal
use Rattle.reo_search.proofs.choices.weighing.codes_at.Goals.{then-is_set+in_ok-push, else-is_set}

pub loop-code-preserved : goal.loop-code-preserved
loop-code-preserved c =
    let test : ℕ → Bool = λ x. flag c.args.alive.now c.args.joint x in
    let code : ℕ = c.loop-code.code in
    elim c.if-is_set.branch [
      | then-is_set+in_ok-push w ↦ w.codes-is ∙ w.in_ok-push.ensures.ok ∙ picked_yes test code c.loop-code.codes c.loop-code.invariant (sym c.is_set.ensures ∙ w.if-is_set.true)
      | else-is_set w ↦ w.codes-is ∙ picked_no test code c.loop-code.codes c.loop-code.invariant (sym c.is_set.ensures ∙ w.if-is_set.false)
    ]

pub returns : goal.returns
returns c =
    subst (AreCodesAt c.args.alive.now c.args.joint) (sym c.loop-code.invariant)
    (codes_end c.args.alive.now c.args.joint c.loop-code.code (omega (arith, c.width-code-end.ensures)))
