use Rattle.std.proofs.Common.{◌<◌, subst, arith}
use Rattle.reo_exprs.specs.Views.{work}
use Rattle.reo_exprs.proofs.Seen.{waiting, waiting_work}
use Rattle.reo_exprs.proofs.value.+value_of.Goals as goal

pub value_of-requires : goal.value_of-requires
value_of-requires t c =
    let more = waiting_work c.view_of.result c.in-Pair.pair c.in-Pair.is in
    let less = c.view_of.ensures.work in
    (subst (λ n. work c.in-Pair.pair.now.left < n) c.decreases (omega arith), ((waiting c.view_of.result c.in-Pair.pair c.args.of.now c.in-Pair.is c.view_of.ensures.typed).0, c.requires.member))

pub value_of-requires-in-Pair : goal.value_of-requires-in-Pair
value_of-requires-in-Pair t c =
    let more = waiting_work c.view_of.result c.in-Pair.pair c.in-Pair.is in
    let less = c.view_of.ensures.work in
    (subst (λ n. work c.in-Pair.pair.now.right < n) c.decreases (omega arith), ((waiting c.view_of.result c.in-Pair.pair c.args.of.now c.in-Pair.is c.view_of.ensures.typed).1, c.requires.member))
