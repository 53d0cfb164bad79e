use Rattle.std.proofs.Common.{◌+◌, ◌*◌, ◌/◌, ◌<◌, ◌^◌, arith, rules}
use Rattle.reo_flags.proofs.Search.{found_from, next_after, none_here}
use Rattle.reo_flags.proofs.words.next_bit.Goals as goal

pub returns-then-found-ne0 : goal.returns-then-found-ne0
returns-then-found-ne0 c =
    let fits : c.having.result < 2 ^ 64 = search rules in
    found_from c.args.value c.args.words.now c.args.from c.having.result (omega arith) fits c.having.ensures.set c.having.ensures.clear (omega arith)

pub returns-else-found-ne0 : goal.returns-else-found-ne0
returns-else-found-ne0 c =
    let fits : c.having.result < 2 ^ 64 = search rules in
    next_after c.args.value c.args.words.now c.args.from (64 * (c.args.from / 64 + 1)) _ (omega arith)
    (none_here c.args.value c.args.words.now c.args.from c.having.result (omega arith) fits c.having.ensures.set c.having.ensures.clear (omega arith))
    c.next_from.ensures
