-- Item by item.
use Rattle.std.proofs.Common.{rules, arith, ◌≡◌, ◌∙◌, ◌<◌, ◌≤◌, ◌+◌, ◌^◌, ◌++◌, ℕ, List, length, take, map, cond, count_by, get_or, OnOk, position, bytes_eq, codes, sym, ap, subst}
use Rattle.std.specs.Fmt.{decimal}
use Rattle.std.proofs.lemmas.List.{take_all, length-take-le}
use Rattle.reo_trees.specs.declared.items.Item.{Item}
use Rattle.reo_rules.specs.Scopes.{node_names}
use Rattle.reo_flat.specs.Unfolding.{Meaning, no_meaning, is_use}
use Rattle.reo_unfold.specs.Ground.{IsStand, Stands}
use Rattle.reo_unfold.specs.Fits.{FormFits}
use Rattle.std.proofs.lemmas.List.Sums.{count_by-le-length}
use Rattle.reo_unfold.specs.Adds.{Adds}
use Rattle.reo_unfold.specs.Frames.{AddsForm, AddsItems, flat_at}
use Rattle.reo_unfold.proofs.GroundLemmas.{meaning_is}
use Rattle.reo_unfold.proofs.UnfoldLemmas.{meaning_late, meaning_nowhere, adds_nothing, adds_use, adds_next, count_next}
use Rattle.reo_unfold.proofs.unfold.+unfolding.Goals as goal

pub item-returns-in-Joined-clause-made : goal.item-returns-in-Joined-clause-made
item-returns-in-Joined-clause-made t c before uses =
    subst (λ g. OnOk c.place.result (AddsForm c.args.frame.now c.args.path.now before g c.args.made.now c.place.new.made)) (sym c.in-Joined.is) c.place.ensures

pub item-returns-in-Used-clause-made : goal.item-returns-in-Used-clause-made
item-returns-in-Used-clause-made t c before uses =
    subst (λ g. OnOk c.used.result (AddsForm c.args.frame.now c.args.path.now before g c.args.made.now c.used.new.made)) (sym c.in-Used.is) (c.used.ensures.made before uses)

pub used-returns-then-frame-number-clause-made : goal.used-returns-then-frame-number-clause-made
used-returns-then-frame-number-clause-made t c before uses =
    adds_nothing c.args.frame.now c.requires.frame c.args.name.now c.args.path.now before c.args.arguments.now c.args.made.now
    (meaning_late c.args.frame.now c.requires.frame c.args.name.now c.in-Some.number (ap (λ n. position (bytes_eq n) c.args.frame.now.ground.now.connectors) (sym c.as_slice.ensures) ∙ sym c.find.ensures ∙ c.in-Some.is) c.if-frame-number.true)

pub used-returns-in_ok-connector-in-Some-clause-made : goal.used-returns-in_ok-connector-in-Some-clause-made
used-returns-in_ok-connector-in-Some-clause-made t c before uses =
    let f = c.args.frame.now in
    adds_use f c.requires.frame c.args.name.now c.args.path.now c.append_use.new.path before c.args.arguments.now c.as_slice-in-Some-2.result.now c.args.made.now c.connector.new.made c.in-Some.number
    (ap (λ n. position (bytes_eq n) f.ground.now.connectors) (sym c.as_slice.ensures) ∙ sym c.find.ensures ∙ c.in-Some.is)
    c.if-frame-number.false
    (c.in_ok-append_use-in-Some.ensures ∙ ap (λ k. c.args.path.now ++ c.args.name.now ++ codes "@" ++ decimal (k + 1) ++ codes ".") (sym uses))
    (c.as_slice-in-Some-2.ensures ∙ c.in_ok-given-in-Some.ensures f.connector.now.parameters (node_names f.connector.now.items) c.requires.frame.local.names (sym c.len-parameters.ensures) ∙ ap (map (flat_at f c.args.path.now)) c.as_slice-in-Some.ensures)
    c.in_ok-connector-in-Some.ensures.made

pub used-returns-in-None-clause-made : goal.used-returns-in-None-clause-made
used-returns-in-None-clause-made t c before uses =
    adds_nothing c.args.frame.now c.requires.frame c.args.name.now c.args.path.now before c.args.arguments.now c.args.made.now
    (meaning_nowhere c.args.frame.now c.requires.frame c.args.name.now (ap (λ n. position (bytes_eq n) c.args.frame.now.ground.now.connectors) (sym c.as_slice.ensures) ∙ sym c.find.ensures ∙ c.in-None.is))

pub connector-returns-clause-made : goal.connector-returns-clause-made
connector-returns-clause-made t c =
    let ds = c.args.declarations.now in
    let stand = subst (Stands ds c.args.number) (sym c.at-stand.ensures) (c.requires.ground.stands c.args.number c.at-stand.result.now c.requires.number) in
    let is : IsStand ds c.args.number c.connector_at-connector.result.now c.at-stand.result.now = record { there = c.connector_at-connector.ensures; before = stand.is.before; types = stand.is.types } in
    subst (λ (m : Meaning). OnOk c.items.result (Adds c.args.made.now c.items.new.made (m.nodes c.args.path.now) (m.channels c.args.path.now c.args.arguments.now)))
    (sym (meaning_is ds c.args.number c.connector_at-connector.result.now c.at-stand.result.now is no_meaning))
    c.items.ensures.made

pub items-loop-one-preserved : goal.items-loop-one-preserved
items-loop-one-preserved t c =
    let f = c.args.frame.now in
    let is = f.connector.now.items in
    let i = c.loop-one.one-index in
    let x = c.one-item.result in
    let inv = c.loop-one.invariant in
    let within : i < length is = subst (λ (xs : List Item). i < length xs) inv.items c.loop-one-test.true in
    let at : x ≡ get_or is i x = c.one-item.is ∙ ap (λ xs. get_or xs i x) inv.items in
    record {
      made = adds_next f c.args.path.now is i x c.args.made.now c.loop-one.made c.item.new.made within at inv.made
          (subst (λ p. AddsForm f p (take i is) x.form c.loop-one.made c.item.new.made) inv.path (c.in_ok-item.ensures.made (take i is) inv.uses));
      path = c.in_ok-item.ensures.path ∙ inv.path;
      uses = count_next is i x within at ∙ ap (λ n. n + cond (is_use x.form) 1 0) inv.uses ∙ sym c.counted-uses.ensures;
      items = inv.items;
    }

few_uses : (is : List Item) (i uses : ℕ) → i < length is → length is < 2 ^ 63 → count_by (λ (y : Item). is_use y.form) (take i is) ≡ uses → uses + 1 < 2 ^ 63
few_uses is i uses within few counted =
    let some = count_by-le-length (λ (y : Item). is_use y.form) (take i is) in
    let long : length (take i is) ≡ i = length-take-le i is (omega arith) in
    omega arith

pub items-counted-uses-requires : goal.items-counted-uses-requires
items-counted-uses-requires t c =
    let f = c.args.frame.now in
    let small = c.as_slice-one-items.type_inv.1 in
    let long = ap length c.as_slice-one-items.ensures in
    let few : length f.connector.now.items < 2 ^ 63 = omega arith in
    few_uses f.connector.now.items c.loop-one.one-index c.loop-one.uses (subst (λ (xs : List Item). c.loop-one.one-index < length xs) c.loop-one.invariant.items c.loop-one-test.true) few c.loop-one.invariant.uses

pub items-item-requires : goal.items-item-requires
items-item-requires t c =
    let f = c.args.frame.now in
    let fit = c.requires.fit.connectors f.stand.place f.connector.now c.requires.stand.there in
    let small = c.as_slice-one-items.type_inv.1 in
    let long = ap length c.as_slice-one-items.ensures in
    let few : length f.connector.now.items < 2 ^ 63 = omega arith in
    let i = c.loop-one.one-index in
    let x = c.one-item.result in
    let within : i < length f.connector.now.items = subst (λ (xs : List Item). i < length xs) c.loop-one.invariant.items c.loop-one-test.true in
    let at : x ≡ get_or f.connector.now.items i x = c.one-item.is ∙ ap (λ xs. get_or xs i x) c.loop-one.invariant.items in (
      search rules,
      (c.requires, (few_uses f.connector.now.items i c.loop-one.uses within few c.loop-one.invariant.uses, subst (λ (y : Item). FormFits y.form) (sym at) (fit.items i x within))),
    )

pub items-returns-clause-made : goal.items-returns-clause-made
items-returns-clause-made t c =
    let f = c.args.frame.now in
    let is = f.connector.now.items in
    let late : length is ≤ c.loop-one.one-index = subst (λ (xs : List Item). length xs ≤ c.loop-one.one-index) c.loop-one.invariant.items c.loop-one-test.false in
    subst (λ xs. AddsItems f c.args.path.now xs c.args.made.now c.loop-one.made) (take_all c.loop-one.one-index is late) c.loop-one.invariant.made
