use Rattle.std.proofs.lemmas.Result.{err_from_is_err_and}
use Rattle.reo_lexer.proofs.Reading.{lexed-fault, so_far-end}
use Rattle.reo_lexer.proofs.lexer.tokens_of.Goals as goal

pub returns-in_err-token : goal.returns-in_err-token
returns-in_err-token c =
    let p = err_from_is_err_and c.from_residual.result c.from_residual.ensures.1 in
    rw (p.1, p.2) (lexed-fault c.args.text.now c.reading.at c.reading.line c.reading.tokens c.in_err-token.field-0.0 c.reading.invariant.0 c.in_err-token.ensures.found)

pub returns : goal.returns
returns c = so_far-end c.args.text.now c.reading.at c.reading.line c.reading.tokens c.reading.invariant.0 (rw c.in_default.is at c.in_ok-token.ensures.found)
