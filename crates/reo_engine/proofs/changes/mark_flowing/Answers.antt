use Rattle.std.proofs.Common.{◌≡◌, ◌∙◌, ◌<◌, ℕ, List, Bool, arith, sym, ap, length, get_or, false}
use Rattle.std.specs.Prelude.{Option, None, is_some}
use Rattle.std.proofs.lemmas.List.{get_or_default, length-map, length-replicate}
use Rattle.reo_values.specs.declared.value.Value.{Value}
use Rattle.reo_net_base.specs.declared.joint.Joint.{Joint}
use Rattle.reo_net_base.specs.Net.{Net, net_of}
use Rattle.reo_flows.proofs.stepping.FlowLemmas.{no_joint}
use Rattle.reo_engine.proofs.Reached.{none_reached, reached_more, reached_still, set_count, those_that_flowed}
use Rattle.reo_engine.proofs.changes.mark_flowing.Goals as goal
use Rattle.reo_engine.proofs.changes.mark_flowing.Goals.{then-is_some, else-is_some}

pub mark_joint-requires-clause-giver : goal.mark_joint-requires-clause-giver
mark_joint-requires-clause-giver g c =
    let is_end = c.known.ensures.wired.givers c.loop-index.index no_joint (omega arith) in
    let here = ap (λ (j : Joint). j.giver.primitive) (c.joint.ensures no_joint) in
    omega (arith, is_end.0, here, length-map c.args.circuit.now.primitives g.P.Primitive.behaviour, c.loop-index.invariant.one_each)

pub mark_joint-requires-clause-taker : goal.mark_joint-requires-clause-taker
mark_joint-requires-clause-taker g c =
    let is_end = c.known.ensures.wired.takers c.loop-index.index no_joint (omega arith) in
    let here = ap (λ (j : Joint). j.taker.primitive) (c.joint.ensures no_joint) in
    omega (arith, is_end.0, here, length-map c.args.circuit.now.primitives g.P.Primitive.behaviour, c.loop-index.invariant.one_each)

pub loop-index-init : goal.loop-index-init
loop-index-init g c = record {
  one_each = ap length c.clear.ensures ∙ length-replicate (length c.args.marks.now) false ∙ c.requires.one_each;
  each = λ i lt. none_reached c.args.circuit.now.joints c.args.items.now c.clear.new.self (length c.args.marks.now) i c.clear.ensures (omega (arith, c.requires.one_each));
}

item_there : (items : List (Option Value)) (k : ℕ) (x : Option Value) (answer : Bool) → k < length items → x ≡ get_or items k x → answer ≡ is_some x → is_some (get_or items k None) ≡ answer
item_there items k x answer lt is says = ap is_some (get_or_default items k None x lt ∙ sym is) ∙ sym says

pub loop-index-preserved : goal.loop-index-preserved
loop-index-preserved g c =
    let joints : List Joint = c.args.circuit.now.joints in
    let items : List (Option Value) = c.args.items.now in
    let k : ℕ = c.loop-index.index in
    let count = c.requires.colouring.one_each in
    let here = item_there items k c.index-items-index.result c.is_some.result (omega arith) c.index-items-index.is c.is_some.ensures in
    elim c.if-is_some.branch [
      | then-is_some w ↦ record {
        one_each = set_count w.joint.result c.loop-index.marks w.mark_joint.new.marks c.if-is_some.marks (length c.args.circuit.now.primitives) w.marks-is w.mark_joint.ensures c.loop-index.invariant.one_each;
        each = λ i lt. reached_more joints items k i w.joint.result c.loop-index.marks w.mark_joint.new.marks c.if-is_some.marks
            (here ∙ w.if-is_some.true) (w.joint.ensures no_joint) w.marks-is w.mark_joint.ensures (omega arith) (c.loop-index.invariant.each i lt);
      }
      | else-is_some w ↦ record {
        one_each = ap length w.marks-is ∙ c.loop-index.invariant.one_each;
        each = λ i lt. reached_still joints items k i c.loop-index.marks c.if-is_some.marks (here ∙ w.if-is_some.false) w.marks-is (c.loop-index.invariant.each i lt);
      }
    ]

pub returns : goal.returns
returns g c =
    let net : Net = net_of g.P.Primitive.behaviour c.args.circuit.now in
    let bs : length net.primitives ≡ length c.args.circuit.now.primitives = length-map c.args.circuit.now.primitives g.P.Primitive.behaviour in
    let last : c.loop-index.index ≡ length net.joints = omega arith in
    those_that_flowed net c.args.rows.now c.args.items.now c.known.ensures.wired c.requires.colouring c.loop-index.marks (c.loop-index.invariant.one_each ∙ sym bs)
    (λ i lt. rw last at (c.loop-index.invariant.each i (omega arith)))
