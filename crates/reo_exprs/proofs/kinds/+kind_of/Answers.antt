use Rattle.reo_exprs.proofs.Steps.{kind_pair}
use Rattle.reo_exprs.proofs.kinds.+kind_of.Goals as goal

pub returns-in_ok-new-in-Pair : goal.returns-in_ok-new-in-Pair
returns-in_ok-new-in-Pair t c =
    kind_pair c.args.kindred.now c.in-Pair.twins c.get-twins.result.now c.in_ok-left-in-Pair.left c.in_ok-right-in-Pair.right c.in_ok-new-in-Pair.field-0
    c.in-Pair.is c.get-twins.ensures c.in_ok-left-in-Pair.ensures c.in_ok-right-in-Pair.ensures c.in_ok-new-in-Pair.ensures
