use Rattle.std.proofs.Common.{◌≡◌, ◌<◌, ℕ, List, Option, None, length, map, arith, ◌∙◌, sym, ap}
use Rattle.std.proofs.lemmas.List.{get_or-map, length-map, length-set}
use Rattle.std.proofs.lemmas.List.FromFn.{get_or-map-range_with_len, length-map-range_with_len}
use Rattle.reo_values.specs.declared.value.Value.{Value}
use Rattle.reo_net_base.specs.declared.colouring.Chosen.{Chosen}
use Rattle.reo_net_base.specs.Behaviour.{Behaviour, nothing}
use Rattle.reo_net_base.specs.Net.{Net, behaviour_at, all_sides}
use Rattle.reo_net_base.specs.Step.{mouth_of, taken_for, chosen_for, all_chosen, all_taken}
use Rattle.reo_net_circuit.proofs.ReshapeLemmas.{lawful_at, whole_slice}
use Rattle.reo_net_circuit.proofs.SettleLemmas.{rest_same, same_at, settled_more}
use Rattle.reo_net_circuit.proofs.StepLemmas.{taken_kept}
use Rattle.reo_net_circuit.proofs.step.step_all.Goals as goal
use Rattle.reo_net_circuit.proofs.Sides.{rows_length, side_in}

pub chosen-rows-requires-clause-first : goal.chosen-rows-requires-clause-first
chosen-rows-requires-clause-first g c =
    let bs : List Behaviour = map g.P.Primitive.behaviour c.args.primitives.now in
    let i : ℕ = c.loop-index.index in
    let i_in : i < length bs = omega (arith, length-map c.args.primitives.now g.P.Primitive.behaviour) in
    let lawful = lawful_at g.P.Primitive.behaviour g.met.P.Primitive.lawful c.args.primitives.now i i_in in
    let there = side_in bs i 0 i_in lawful.some_side in
    omega (arith, there, c.requires.firsts.first i 0 i_in, rows_length (all_sides bs) c.args.rows.now c.requires.rows)

pub chosen-rows-requires-clause-second : goal.chosen-rows-requires-clause-second
chosen-rows-requires-clause-second g c = λ two.
    let bs : List Behaviour = map g.P.Primitive.behaviour c.args.primitives.now in
    let i : ℕ = c.loop-index.index in
    let p = c.index-primitives-index.result in
    let i_in : i < length bs = omega (arith, length-map c.args.primitives.now g.P.Primitive.behaviour) in
    let same = same_at c.loop-index.primitives c.args.primitives.now i p c.loop-index.invariant.unsettled in
    let behaviour = get_or-map g.P.Primitive.behaviour c.args.primitives.now i p nothing (omega arith) ∙ ap g.P.Primitive.behaviour (sym same) in
    let sides : (behaviour_at bs i).sides ≡ 2 = ap (λ (b : Behaviour). b.sides) behaviour ∙ two in
    let there = side_in bs i 1 i_in (omega (arith, sides)) in
    omega (arith, there, c.requires.firsts.first i 0 i_in, rows_length (all_sides bs) c.args.rows.now c.requires.rows)

pub loop-index-preserved : goal.loop-index-preserved
loop-index-preserved g c =
    let bs : List Behaviour = map g.P.Primitive.behaviour c.args.primitives.now in
    let net : Net = record { primitives = bs; joints = c.args.joints.now } in
    let i : ℕ = c.loop-index.index in
    let inv = c.loop-index.invariant in
    let lt : i < length c.args.primitives.now = omega arith in
    let count : length bs ≡ length c.args.primitives.now = length-map c.args.primitives.now g.P.Primitive.behaviour in
    let i_in : i < length bs = omega (arith, count) in
    let now : List g.row.P.Denot = c.loop-index.primitives in
    let items : List (Option Value) = c.loop-index.items.items in
    let p = c.index-primitives-index.result in
    let q = c.index-primitives-index-in-loop-index.result in
    let behaviour = get_or-map g.P.Primitive.behaviour c.args.primitives.now i p nothing lt ∙ ap g.P.Primitive.behaviour (sym (same_at now c.args.primitives.now i p inv.unsettled)) in
    let d : Chosen = record { first = 0; second = 0 } in
    let chosen_is = rw (c.requires.firsts.first i 0 i_in, sym behaviour) at c.chosen-rows.ensures in
    let chosen_there = chosen_is ∙ sym (get_or-map-range_with_len {X = Chosen} (chosen_for net c.args.rows.now) 0 (length bs) i i d i_in (omega arith)) in
    let item_is = rw (c.deref_mut.ensures.value, c.requires.mouths.mouth i i_in) at c.take_item-item.ensures.item in
    let item_there = item_is ∙ inv.untaken i (omega arith) lt ∙ sym (get_or-map-range_with_len {X = Option Value} (taken_for net c.args.items.items) 0 (length bs) i i None i_in (omega arith)) in
    let rest = rw (c.deref_mut.ensures.value, c.requires.mouths.mouth i i_in) at c.take_item-item.ensures.rest in
    let whole = whole_slice c.loop-index.items.len c.take_item-item.new.items items c.loop-index.items.ok.0 (ap length rest ∙ length-set items (mouth_of net i) None) in
    let settled = rw (same_at now c.args.primitives.now i q inv.unsettled, chosen_there, item_there) at c.settle.ensures in
    rw (whole, rest) record {
      count = length-set items (mouth_of net i) None ∙ inv.count;
      untaken = λ k le k_lt. taken_kept net items i k inv.count (omega arith) ∙ inv.untaken k (omega arith) k_lt;
      unsettled = rest_same now c.args.primitives.now i c.settle.new.self inv.unsettled;
      whole = rw settled (settled_more g.P.Primitive.settled now c.args.primitives.now (all_chosen net c.args.rows.now) (all_taken net c.args.items.items) i q d None (omega arith) lt
          (omega (arith, i_in, length-map-range_with_len {X = Chosen} (chosen_for net c.args.rows.now) 0 (length bs)))
          (omega (arith, i_in, length-map-range_with_len {X = Option Value} (taken_for net c.args.items.items) 0 (length bs)))
          ∙ inv.whole);
    }
