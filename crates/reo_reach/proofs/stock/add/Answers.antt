use Rattle.std.proofs.Common.{◌≡◌, List, subst, sym}
use Rattle.std.specs.Prelude.{Contains}
use Rattle.std.proofs.lemmas.Result.{on_ok_weaker}
use Rattle.reo_values.specs.declared.value.Value.{Value}
use Rattle.reo_reach.specs.Added.{AreAdded}
use Rattle.reo_reach.proofs.AddedLemmas.{added_there, added_push}
use Rattle.reo_reach.proofs.stock.add.Goals as goal

pub returns-then-is_among : goal.returns-then-is_among
returns-then-is_among c =
    added_there c.args.items.now c.args.item (subst (λ (xs : List Value). Contains xs c.args.item) c.as_slice.ensures (c.is_among.ensures.0 c.if-is_among.true))

pub returns : goal.returns
returns c =
    let new : Contains c.args.items.now c.args.item → ⊥ = λ has.
    let there = c.is_among.ensures.1 (subst (λ (xs : List Value). Contains xs c.args.item) (sym c.as_slice.ensures) has) in
    let wrong = c.if-is_among.false in
    cc in
    on_ok_weaker c.push.result (λ after. subst (λ (xs : List Value). AreAdded c.args.items.now xs (λ x. x ≡ c.args.item)) (sym after) (added_push c.args.items.now c.args.item new c.requires)) c.push.ensures.ok
