use Rattle.std.proofs.Common.{arith, ◌≡◌, ◌∙◌, ◌⊎◌, ◌++◌, [], pos, ◌+ℤ◌, Ok, Err, List, take, length, ap, sym, subst, append_assoc}
use Rattle.std.specs.List.{flat_map}
use Rattle.reo_trees.specs.declared.items_two.ItemTwo.{ItemTwo}
use Rattle.reo_expand.specs.declared.base.fault.ExpandFault.TheVariants as faults
use Rattle.reo_expand.specs.base.Indexed.{value_of}
use Rattle.reo_expand.specs.base.Expansion.{items_of, items_in}
use Rattle.reo_expand.specs.base.Steps.{steps_of, steps_in, two_in, walked, unbound_steps}
use Rattle.reo_expand.specs.base.Judged.{IsHalted}
use Rattle.reo_expand.proofs.base.Turning.{next_of, item_done, item_stopped, passed_on, turn_steps, turn_items}
use Rattle.reo_expand.specs.walk.Spans.{IsSpan}
use Rattle.reo_expand.proofs.walk.LoopSteps.{bounds_stopped, steps_whole, items_whole}
use Rattle.reo_expand.proofs.walk.TurnSteps.{IsStop, not_begun, not_ended, gone, made_more, left}
use Rattle.reo_expand.proofs.walk.Values.{entered}
use Rattle.reo_expand.proofs.walk.walk.+walk.Goals as goal

pub item-returns-in_err-span-in-Loop-clause-walked : goal.item-returns-in_err-span-in-Loop-clause-walked
item-returns-in_err-span-in-Loop-clause-walked t c =
    let n = c.args.walk.now.count in
    let f = c.args.item.now.form in
    let line = c.args.item.now.line in
    let low = c.in-Loop.low in
    let high = c.in-Loop.high in
    let d = c.in_err-span-in-Loop.field-0.0 in
    passed_on c.from_residual.result d n n (steps_of (flat_map two_in c.args.before.now) c.args.bound.now line f) c.from_residual.ensures
    (bounds_stopped n c.args.before.now c.args.bound.now line f c.in-Loop.variable low high c.in-Loop.row c.in-Loop.is d
    (subst (λ b. IsHalted (unbound_steps b line low ++ unbound_steps b line high) d) c.as_slice.ensures c.in_err-span-in-Loop.ensures))

pub item-returns-in_err-enter-in-Loop-clause-walked : goal.item-returns-in_err-enter-in-Loop-clause-walked
item-returns-in_err-enter-in-Loop-clause-walked t c =
    let n = c.args.walk.now.count in
    let f = c.args.item.now.form in
    let line = c.args.item.now.line in
    let low = c.in-Loop.low in
    let high = c.in-Loop.high in
    let s = c.in_ok-span-in-Loop.span in
    let told = subst (λ b. (unbound_steps b line low ++ unbound_steps b line high ≡ []) × IsSpan b low high s) c.as_slice.ensures c.in_ok-span-in-Loop.ensures in
    let whole = steps_whole n c.args.before.now c.args.bound.now line f c.in-Loop.variable low high c.in-Loop.row c.in-Loop.is told.0 s told.1 in
    let d = c.in_err-enter-in-Loop.field-0.0 in
    passed_on c.from_residual-in_err-enter-in-Loop.result d n c.enter.new.walk.count (steps_of (flat_map two_in c.args.before.now) c.args.bound.now line f) c.from_residual-in_err-enter-in-Loop.ensures
    (subst (λ st. IsStop n st d) (sym whole)
    (not_begun c.args.before.now c.args.bound.now c.in-Loop.variable c.in-Loop.row s.first n c.loop-turn.walk.count c.loop-turn.turn s.turns d c.loop-turn-test.true c.loop-turn.invariant.walked c.in_err-enter-in-Loop.ensures.walked))

pub item-returns-in_err-items-in-Loop-clause-walked : goal.item-returns-in_err-items-in-Loop-clause-walked
item-returns-in_err-items-in-Loop-clause-walked t c =
    let n = c.args.walk.now.count in
    let f = c.args.item.now.form in
    let line = c.args.item.now.line in
    let before = c.args.before.now in
    let bound = c.args.bound.now in
    let variable = c.in-Loop.variable in
    let low = c.in-Loop.low in
    let high = c.in-Loop.high in
    let row = c.in-Loop.row in
    let s = c.in_ok-span-in-Loop.span in
    let j = c.loop-turn.turn in
    let k = c.enter.new.walk.count in
    let b = c.enter.new.bound in
    let told = subst (λ b. (unbound_steps b line low ++ unbound_steps b line high ≡ []) × IsSpan b low high s) c.as_slice.ensures c.in_ok-span-in-Loop.ensures in
    let is = entered (value_of bound low) (value_of bound high) s j bound c.loop-turn.bound b variable told.1 c.loop-turn-test.true c.in_ok-enter-in-Loop.ensures.bound c.loop-turn.invariant.bound in
    let whole = steps_whole n before bound line f variable low high row c.in-Loop.is told.0 s told.1 in
    let d = c.in_err-items-in-Loop.field-0.0 in
    let stop = subst (λ (r : List ItemTwo). IsStop k (steps_in (flat_map two_in before) b r) d) c.as_slice-in-loop-turn.ensures c.in_err-items-in-Loop.ensures.walked in
    passed_on c.from_residual-in_err-items-in-Loop.result d n c.items.new.walk.count (steps_of (flat_map two_in before) bound line f) c.from_residual-in_err-items-in-Loop.ensures
    (subst (λ st. IsStop n st d) (sym whole)
    (not_ended before bound variable row s.first n c.loop-turn.walk.count k j s.turns d b c.loop-turn-test.true c.loop-turn.invariant.walked c.in_ok-enter-in-Loop.ensures.walked is stop))

pub item-loop-turn-preserved : goal.item-loop-turn-preserved
item-loop-turn-preserved t c =
    let n = c.args.walk.now.count in
    let f = c.args.item.now.form in
    let line = c.args.item.now.line in
    let before = c.args.before.now in
    let bound = c.args.bound.now in
    let variable = c.in-Loop.variable in
    let low = c.in-Loop.low in
    let high = c.in-Loop.high in
    let row = c.in-Loop.row in
    let s = c.in_ok-span-in-Loop.span in
    let j = c.loop-turn.turn in
    let k = c.enter.new.walk.count in
    let b = c.enter.new.bound in
    let told = subst (λ b. (unbound_steps b line low ++ unbound_steps b line high ≡ []) × IsSpan b low high s) c.as_slice.ensures c.in_ok-span-in-Loop.ensures in
    let is = entered (value_of bound low) (value_of bound high) s j bound c.loop-turn.bound b variable told.1 c.loop-turn-test.true c.in_ok-enter-in-Loop.ensures.bound c.loop-turn.invariant.bound in
    let q = c.items.new.walk.count in
    let went = subst (λ (r : List ItemTwo). walked k (steps_in (flat_map two_in before) b r) ≡ Ok q) c.as_slice-in-loop-turn.ensures c.in_ok-items-in-Loop.ensures.walked in
    let made = c.in_ok-items-in-Loop.ensures.made ∙ ap (λ (r : List ItemTwo). c.loop-turn.out ++ items_in b r) c.as_slice-in-loop-turn.ensures in
    let cut : c.truncate.new.self ≡ take c.len-depth.result c.items.new.bound = c.truncate.ensures in
    let rest = cut ∙ ap (λ m. take m c.items.new.bound) c.len-depth.ensures ∙ ap (take (length bound)) c.in_ok-items-in-Loop.ensures.bound in
    record {
      walked = gone before bound variable row s.first n c.loop-turn.walk.count k q j b c.loop-turn.invariant.walked c.in_ok-enter-in-Loop.ensures.walked is went;
      made = made_more before bound variable row s.first c.args.out.now c.loop-turn.out c.items.new.out j b c.loop-turn.invariant.made made is;
      bound = left before bound variable row s.first b c.truncate.new.self (s.first +ℤ pos j) is rest;
      small = c.items.ensures.small;
    }

pub item-returns-after-loop-turn-clause-walked : goal.item-returns-after-loop-turn-clause-walked
item-returns-after-loop-turn-clause-walked t c =
    let n = c.args.walk.now.count in
    let f = c.args.item.now.form in
    let line = c.args.item.now.line in
    let low = c.in-Loop.low in
    let high = c.in-Loop.high in
    let s = c.in_ok-span-in-Loop.span in
    let told = subst (λ b. (unbound_steps b line low ++ unbound_steps b line high ≡ []) × IsSpan b low high s) c.as_slice.ensures c.in_ok-span-in-Loop.ensures in
    let whole = steps_whole n c.args.before.now c.args.bound.now line f c.in-Loop.variable low high c.in-Loop.row c.in-Loop.is told.0 s told.1 in
    let e : s.turns ≡ c.loop-turn.turn = omega arith in
    ap (walked n) whole
    ∙ ap (λ j. walked n (turn_steps c.args.before.now c.args.bound.now c.in-Loop.variable c.in-Loop.row s.first j)) e
    ∙ c.loop-turn.invariant.walked

pub item-returns-after-loop-turn-clause-made : goal.item-returns-after-loop-turn-clause-made
item-returns-after-loop-turn-clause-made t c =
    let n = c.args.walk.now.count in
    let f = c.args.item.now.form in
    let line = c.args.item.now.line in
    let low = c.in-Loop.low in
    let high = c.in-Loop.high in
    let s = c.in_ok-span-in-Loop.span in
    let told = subst (λ b. (unbound_steps b line low ++ unbound_steps b line high ≡ []) × IsSpan b low high s) c.as_slice.ensures c.in_ok-span-in-Loop.ensures in
    let whole = items_whole n c.args.before.now c.args.bound.now line f c.in-Loop.variable low high c.in-Loop.row c.in-Loop.is told.0 s told.1 in
    let e : c.loop-turn.turn ≡ s.turns = omega arith in
    c.loop-turn.invariant.made
    ∙ ap (λ j. c.args.out.now ++ turn_items c.args.bound.now c.in-Loop.variable c.in-Loop.row s.first j) e
    ∙ ap (λ l. c.args.out.now ++ l) (sym whole)

pub items-returns-in_err-item-clause-walked : goal.items-returns-in_err-item-clause-walked
items-returns-in_err-item-clause-walked t c =
    let ds = flat_map two_in c.args.before.now in
    let bound = c.args.bound.now in
    let x = c.next-item.result in
    let d = c.in_err-item.field-0.0 in
    passed_on c.from_residual.result d c.args.walk.now.count c.item.new.walk.count (steps_in ds bound c.args.items.now) c.from_residual.ensures
    (item_stopped (λ (i : ItemTwo). steps_of ds bound i.line i.form) c.args.items.now c.args.walk.now.count c.loop-next.walk.count c.loop-next.next-index x d
    c.loop-next-test.true c.next-item.is c.loop-next.invariant.walked
    (subst (λ b. (d ≡ faults.NoMemory) ⊎ (walked c.loop-next.walk.count (steps_of ds b x.line x.form) ≡ Err d)) c.loop-next.invariant.bound c.in_err-item.ensures.walked))

pub items-loop-next-preserved : goal.items-loop-next-preserved
items-loop-next-preserved t c =
    let ds = flat_map two_in c.args.before.now in
    let bound = c.args.bound.now in
    let x = c.next-item.result in
    record {
      walked = item_done (λ (i : ItemTwo). steps_of ds bound i.line i.form) c.args.items.now c.args.walk.now.count c.loop-next.walk.count c.item.new.walk.count c.loop-next.next-index x
          c.loop-next-test.true c.next-item.is c.loop-next.invariant.walked
          (subst (λ b. walked c.loop-next.walk.count (steps_of ds b x.line x.form) ≡ Ok c.item.new.walk.count) c.loop-next.invariant.bound c.in_ok-item.ensures.walked);
      made = c.in_ok-item.ensures.made
          ∙ ap (λ b. c.loop-next.out ++ items_of b x.line x.form) c.loop-next.invariant.bound
          ∙ ap (λ o. o ++ items_of bound x.line x.form) c.loop-next.invariant.made
          ∙ append_assoc c.args.out.now _ (items_of bound x.line x.form)
          ∙ ap (λ l. c.args.out.now ++ l) (sym (next_of (λ (i : ItemTwo). items_of bound i.line i.form) c.args.items.now c.loop-next.next-index x c.loop-next-test.true c.next-item.is));
      bound = c.in_ok-item.ensures.bound ∙ c.loop-next.invariant.bound;
      small = c.item.ensures.small;
    }
