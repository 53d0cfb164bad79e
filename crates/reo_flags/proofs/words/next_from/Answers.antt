use Rattle.std.proofs.Common.{◌*◌, ℕ, arith, rules}
use Rattle.reo_flags.proofs.Search.{first_in, next_after}
use Rattle.reo_flags.proofs.words.next_from.Goals as goal

pub returns-then-found-ne0 : goal.returns-then-found-ne0
returns-then-found-ne0 c =
    let far = c.loop-place.invariant in
    let place : ℕ = c.loop-place.place in
    let on = far.from_on in
    next_after c.args.value c.args.words.now (64 * c.args.first) (64 * place) _ (omega arith) far.none
    (first_in c.args.value c.args.words.now place c.having-found.result (omega arith) (search rules) c.having-found.ensures.set c.having-found.ensures.clear (omega arith))
