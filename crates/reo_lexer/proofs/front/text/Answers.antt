use Rattle.std.proofs.Common.{refl, ℕ, arith, inr, sym, ◌∙◌, true, false, ◌≡◌, Bool, ◌==◌}
use Rattle.std.proofs.lemmas.Bool.Decides.{nat_tests}
use Rattle.reo_lexer.proofs.Found.{closed-at, end-at, break-at, wrong-at}
use Rattle.reo_lexer.proofs.front.text.Goals as goal
use Rattle.reo_lexer.proofs.front.text.Goals.{then-inside-rest-via-then-inside-rest, then-inside-rest-via-else-inside-rest+then-is_break, then-inside-via-then-inside, then-inside-via-else-inside+then-rest-inside-ne34}

other-byte : (x : ℕ) → (x ≡ 34 → ⊥) → (x == 34) ≡ false
other-byte x h = grind (arith, nat_tests)

no-both : {P : Type 0} (b : Bool) → b ≡ true → b ≡ false → P
no-both b h k = absurd (cc)

pub returns-then-inside-rest-clause-err : goal.returns-then-inside-rest-clause-err
returns-then-inside-rest-clause-err c = (
  refl,
  elim c.then-inside-rest.branch [
    | then-inside-rest-via-then-inside-rest w ↦ end-at c.args.left.now c.requires.some c.requires.quote c.inside_of-inside.result.escape c.inside_of-inside.result.length c.inside_of-inside.ensures.rest (omega arith)
    | then-inside-rest-via-else-inside-rest+then-is_break w ↦ break-at c.args.left.now c.requires.some c.requires.quote c.inside_of-inside.result.escape c.inside_of-inside.result.length c.inside_of-inside.ensures.rest (let k = c.inside_of-inside.ensures.within in omega arith) (sym w.is_break.ensures ∙ w.if-is_break.true)
  ],
)

pub returns-then-inside-clause-err : goal.returns-then-inside-clause-err
returns-then-inside-clause-err c = (
  refl,
  inr (wrong-at c.args.left.now c.requires.some c.requires.quote c.inside_of-inside.result.escape c.inside_of-inside.result.length c.inside_of-inside.ensures.rest (let k = c.inside_of-inside.ensures.within in omega arith) (sym c.is_break.ensures ∙ c.if-is_break.false)
      (elim c.then-inside.branch [
        | then-inside-via-then-inside w ↦ λ q. no-both c.inside_of-inside.result.escape w.if-inside.true q
        | then-inside-via-else-inside+then-rest-inside-ne34 w ↦ λ q. other-byte _ w.if-rest-inside-ne34.true
      ])),
)

pub returns-clause-ok : goal.returns-clause-ok
returns-clause-ok c = closed-at c.args.left.now c.requires.some c.requires.quote c.inside_of-inside.result.escape c.inside_of-inside.result.length c.inside_of-inside.ensures.rest c.if-inside.false (let k = c.inside_of-inside.ensures.within in omega arith) c.if-rest-inside-ne34.false
