use Rattle.std.proofs.lemmas.List.Elements.{All-more}
use Rattle.reo_values.specs.decimals.Digits.{IsDigit}
use Rattle.reo_values.proofs.decimals.number.digits_length.Goals as goal

pub loop-at-preserved : goal.loop-at-preserved
loop-at-preserved c = All-more IsDigit c.args.text.now c.loop-at.at 0 c.loop-at-test.true c.loop-at.invariant (c.if-byte-lt48.false, c.if-byte-gt57.false)
