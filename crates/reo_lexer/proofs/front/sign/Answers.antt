use Rattle.std.proofs.Common.{refl, arith, inl, sym, ◌∙◌}
use Rattle.reo_lexer.proofs.Found.{sign-front, none-front}
use Rattle.reo_lexer.proofs.front.sign.Goals as goal

pub returns-then-length-eq0-clause-err : goal.returns-then-length-eq0-clause-err
returns-then-length-eq0-clause-err c = (
  refl,
  inl (none-front c.args.left.now c.requires.some c.requires.no_letter c.requires.no_digit c.requires.no_quote c.requires.no_space c.requires.no_comment
      (sym c.sign_length-length.ensures ∙ c.if-length-eq0.true)),
)

pub returns-clause-ok : goal.returns-clause-ok
returns-clause-ok c = sign-front c.args.left.now c.sign_length-length.result c.sign_length-length.ensures (omega arith)
