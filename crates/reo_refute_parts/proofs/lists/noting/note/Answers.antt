use Rattle.std.proofs.Common.{List, [], ◌∷◌, subst, sym}
use Rattle.std.specs.Prelude.{Contains}
use Rattle.std.proofs.lemmas.Result.{on_ok_weaker}
use Rattle.reo_values.specs.declared.value.Value.{Value}
use Rattle.reo_refute_parts.specs.lists.Noted.{IsNoted}
use Rattle.reo_refute_parts.proofs.lists.NotedLemmas.{noted_there, noted_again, noted_push}
use Rattle.reo_refute_parts.proofs.lists.noting.note.Goals as goal

pub returns-then-is_among : goal.returns-then-is_among
returns-then-is_among c = noted_there c.args.old.now c.args.new.now c.args.item (c.is_among.ensures.0 c.if-is_among.true)

pub returns-then-is_among-2 : goal.returns-then-is_among-2
returns-then-is_among-2 c =
    noted_again c.args.old.now c.args.new.now c.args.item (subst (λ (xs : List Value). Contains xs c.args.item) c.as_slice.ensures (c.is_among-2.ensures.0 c.if-is_among-2.true))

pub returns : goal.returns
returns c =
    let not_old : Contains c.args.old.now c.args.item → ⊥ = λ has.
    let there = c.is_among.ensures.1 has in
    let wrong = c.if-is_among.false in
    cc in
    let not_new : Contains c.args.new.now c.args.item → ⊥ = λ has.
    let there = c.is_among-2.ensures.1 (subst (λ (xs : List Value). Contains xs c.args.item) (sym c.as_slice.ensures) has) in
    let wrong = c.if-is_among-2.false in
    cc in
    on_ok_weaker c.push.result (λ after. subst (λ (xs : List Value). IsNoted c.args.old.now c.args.new.now (c.args.item ∷ []) xs) (sym after) (noted_push c.args.old.now c.args.new.now c.args.item not_old not_new)) c.push.ensures.ok
