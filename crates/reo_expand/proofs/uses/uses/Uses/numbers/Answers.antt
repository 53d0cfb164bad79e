use Rattle.std.proofs.Common.{arith, ◌≡◌, ◌∙◌, ◌<◌, ◌^◌, ◌++◌, ◌∷◌, [], pos, ap, sym}
use Rattle.std.specs.Int.{w64}
use Rattle.std.proofs.lemmas.Int.{to_z_pos}
use Rattle.reo_rules.specs.Lists.{has_name}
use Rattle.reo_expand.specs.base.Expansion.{numbered_name}
use Rattle.reo_expand.specs.uses.Numbers.{numbers_below}
use Rattle.reo_expand.proofs.uses.Below.{more_there, more_none, nothing_below}
use Rattle.reo_expand.proofs.uses.uses.Uses.numbers.Goals as goal
use Rattle.reo_expand.proofs.uses.uses.Uses.numbers.Goals.{then-has+in_ok-push, else-has}

pub loop-number-init : goal.loop-number-init
loop-number-init c = c.new-numbers.ensures ∙ nothing_below c.args.self.now.names c.args.name.now

pub loop-number-preserved : goal.loop-number-preserved
loop-number-preserved c =
    let names = c.args.self.now.names in
    let name = c.args.name.now in
    let n = c.loop-number.number in
    let below : n < 2 ^ 63 = omega arith in
    let is : c.as_slice.result.now ≡ numbered_name name (pos n) = c.as_slice.ensures ∙ c.in_ok-next.ensures ∙ ap (numbered_name name) (to_z_pos w64 n below) in
    let has : c.has.result ≡ has_name names (numbered_name name (pos n)) = c.has.ensures ∙ ap (has_name names) is in
    elim c.if-has.branch [
      | then-has+in_ok-push w ↦ w.numbers-is ∙ w.in_ok-push.ensures.ok ∙ ap (λ l. l ++ n ∷ []) c.loop-number.invariant ∙ sym (more_there names name n (sym has ∙ w.if-has.true))
      | else-has w ↦ w.numbers-is ∙ c.loop-number.invariant ∙ sym (more_none names name n (sym has ∙ w.if-has.false))
    ]

pub returns : goal.returns
returns c =
    let e : c.loop-number.number ≡ 4097 = omega arith in
    c.loop-number.invariant ∙ ap (λ m. numbers_below m c.args.self.now.names c.args.name.now) e
