use Rattle.std.proofs.Common.{length, ap, arith}
use Rattle.reo_terms.proofs.Only.{tokens-few}
use Rattle.reo_parser.proofs.two.texts.answer_of.Goals as goal

pub answer_second-requires-clause-few : goal.answer_second-requires-clause-few
answer_second-requires-clause-few c = omega (arith, tokens-few c.args.text.now c.in_ok-tokens.tokens c.in_ok-tokens.ensures.lexed, ap length c.as_slice-tokens.ensures)
