use Rattle.std.proofs.Common.{refl, arith}
use Rattle.reo_lexer.proofs.Found.{number-front, number-long}
use Rattle.reo_lexer.proofs.front.number.Goals as goal

pub returns-then-length-gt-MOST_DIGITS-clause-err : goal.returns-then-length-gt-MOST_DIGITS-clause-err
returns-then-length-gt-MOST_DIGITS-clause-err c =
    (refl, number-long c.args.left.now c.digits_length-length.result c.requires c.digits_length-length.ensures (omega arith))

pub returns-clause-ok : goal.returns-clause-ok
returns-clause-ok c = number-front c.args.left.now c.digits_length-length.result c.requires c.digits_length-length.ensures (omega arith)
