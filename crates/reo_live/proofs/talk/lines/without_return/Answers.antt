use Rattle.std.proofs.Common.{◌≡◌, ◌+◌, ◌-◌, ℕ, length, get_or, subst, arith}
use Rattle.reo_live.proofs.talk.LineLemmas.{keeps_return, drops_return}
use Rattle.reo_live.proofs.talk.lines.without_return.Goals as goal

pub returns-then-bytes-length-ne13-clause-cleaned : goal.returns-then-bytes-length-ne13-clause-cleaned
returns-then-bytes-length-ne13-clause-cleaned c =
    keeps_return c.args.bytes.now (λ k e is.
    let same : k ≡ length c.args.bytes.now - 1 = omega (arith, e) in
    c.if-bytes-length-ne13.true (subst (λ (n : ℕ). get_or c.args.bytes.now n 0 ≡ 13) same is))

pub returns-clause-cleaned : goal.returns-clause-cleaned
returns-clause-cleaned c =
    let last : length c.args.bytes.now - 1 + 1 ≡ length c.args.bytes.now = omega (arith, c.if-length-eq0.false) in
    drops_return c.args.bytes.now _ last c.if-bytes-length-ne13.false
