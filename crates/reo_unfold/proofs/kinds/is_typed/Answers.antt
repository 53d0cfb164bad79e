-- By what is answered.
use Rattle.std.proofs.Common.{Err, IfOk, is_some, ◌≡◌, sym, ap, subst}
use Rattle.reo_exprs.specs.Typing.{type_of_expr}
use Rattle.reo_exprs.proofs.KindOfType.{untyped}
use Rattle.reo_unfold.proofs.kinds.is_typed.Goals as goal
use Rattle.reo_unfold.proofs.kinds.is_typed.Goals.{in-Ok, in-Err-NoMemory, in-Err-Mistyped, in-Err-Range}

pub returns : goal.returns
returns c = elim c.match-type_of.branch [
  | in-Ok w ↦ subst (λ r. IfOk r (λ test. test ≡ is_some (type_of_expr c.args.expr.now c.args.of.now))) (sym w.result-is) (sym (ap is_some w.in-Ok.ensures.typed))
  | in-Err-NoMemory w ↦ subst (λ r. IfOk r (λ test. test ≡ is_some (type_of_expr c.args.expr.now c.args.of.now))) (sym w.result-is) tt
  | in-Err-Mistyped w ↦ subst (λ r. IfOk r (λ test. test ≡ is_some (type_of_expr c.args.expr.now c.args.of.now))) (sym w.result-is)
      (sym (ap is_some (untyped c.args.expr.now c.args.of.now (w.in-Err-Mistyped.ensures.mistyped (ap Err w.in-Err-Mistyped.field-0-is)))))
  | in-Err-Range w ↦ subst (λ r. IfOk r (λ test. test ≡ is_some (type_of_expr c.args.expr.now c.args.of.now))) (sym w.result-is)
      (sym (ap is_some (w.in-Err-Range.ensures.range (ap Err w.in-Err-Range.field-0-is)).1))
]
