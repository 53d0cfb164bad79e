use Rattle.std.proofs.Common.{length, ap, sym, subst, arith}
use Rattle.reo_lexer.specs.Lexing.{IsTokens}
use Rattle.reo_terms.proofs.Only.{tokens-few}
use Rattle.reo_script.proofs.OneEvent.{deep-silent}
use Rattle.reo_script.proofs.lines.said_event.Goals as goal

pub first_deep-requires-clause-few : goal.first_deep-requires-clause-few
first_deep-requires-clause-few c = omega (arith, tokens-few c.args.line.now c.in-Ok.tokens c.in-Ok.ensures.lexed, ap length c.as_slice-tokens.ensures)

pub said_by-requires-clause-few : goal.said_by-requires-clause-few
said_by-requires-clause-few c = omega (arith, tokens-few c.args.line.now c.in-Ok.tokens c.in-Ok.ensures.lexed, ap length c.as_slice-tokens.ensures)

pub returns : goal.returns
returns c =
    let tokens = c.as_slice-tokens.result.now in
    let are = subst (IsTokens c.args.line.now) (sym c.as_slice-tokens.ensures) c.in-Ok.ensures.lexed in
    deep-silent c.args.line.now tokens c.in-Some.field-0 are c.in-Some.ensures
