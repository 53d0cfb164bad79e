use Rattle.std.proofs.Common.{subst}
use Rattle.std.specs.Prelude.{IfOk, ◌≡◌}
use Rattle.reo_exprs.proofs.Steps.{join_pair, join_plain}
use Rattle.reo_exprs.proofs.kinds.+join.Goals as goal

pub returns-in_ok-new-in-Pair-b : goal.returns-in_ok-new-in-Pair-b
returns-in_ok-new-in-Pair-b t c =
    join_pair c.args.a.now c.args.b.now c.in-Pair.x c.in-Pair-b.y c.get-x.result.now c.get-y.result.now c.in_ok-left-in-Pair-b.left c.in_ok-right-in-Pair-b.right c.in_ok-new-in-Pair-b.field-0
    c.in-Pair.is c.in-Pair-b.is c.get-x.ensures c.get-y.ensures c.in_ok-left-in-Pair-b.ensures c.in_ok-right-in-Pair-b.ensures c.in_ok-new-in-Pair-b.ensures

pub returns-in_default-b-3 : goal.returns-in_default-b-3
returns-in_default-b-3 t c = subst (λ k. IfOk c.copy_kindred-in_default-b-3.result (λ made. made ≡ k)) (join_plain c.args.a.now c.args.b.now c.in-Pair.x c.in-Pair.is c.in_default-b-3.not-Pair) c.copy_kindred-in_default-b-3.ensures
