use Rattle.std.proofs.Common.{length, ap, arith}
use Rattle.reo_terms.proofs.Only.{tokens-few}
use Rattle.reo_script.proofs.texts.said.Goals as goal

pub first_deep-requires-clause-few : goal.first_deep-requires-clause-few
first_deep-requires-clause-few c = omega (arith, tokens-few c.args.text.now c.in_ok-tokens.tokens c.in_ok-tokens.ensures.lexed, ap length c.as_slice-tokens.ensures)

pub said_within-requires-clause-few : goal.said_within-requires-clause-few
said_within-requires-clause-few c = omega (arith, tokens-few c.args.text.now c.in_ok-tokens.tokens c.in_ok-tokens.ensures.lexed, ap length c.as_slice-tokens.ensures)

pub said_above-requires-clause-few : goal.said_above-requires-clause-few
said_above-requires-clause-few c = omega (arith, tokens-few c.args.text.now c.in_ok-tokens.tokens c.in_ok-tokens.ensures.lexed, ap length c.as_slice-tokens.ensures)
