use Rattle.std.proofs.Common.{◌≡◌, ◌∙◌, ℕ, Bool, true, false, List, length, get_or, replicate, set, ap, sym, subst, arith}
use Rattle.std.proofs.lemmas.List.{get_or-replicate, length-map, length-replicate, length-set}
use Rattle.reo_net_base.specs.declared.joint.Joint.{Joint}
use Rattle.reo_net_base.specs.Net.{Net, net_of}
use Rattle.reo_net_base.specs.Wired.{IsEnd}
use Rattle.reo_flows.specs.stepping.Changes.{is_changed}
use Rattle.reo_flows.proofs.stepping.FlowLemmas.{no_joint}
use Rattle.reo_flows.proofs.stepping.Marking.{beside_more, none_beside, those_beside_flow}
use Rattle.reo_flows.proofs.stepping.flowing.mark_flowing.Goals as goal

pub loop-index-init : goal.loop-index-init
loop-index-init g c =
    let none : c.clear.new.self ≡ replicate (length c.args.circuit.now.primitives) false = c.clear.ensures ∙ ap (λ (n : ℕ). replicate n false) c.requires.one_each in
    record {
      one_each = ap (λ (ms : List Bool). length ms) none ∙ length-replicate (length c.args.circuit.now.primitives) false;
      each = λ i lt.
          none_beside c.args.circuit.now.joints c.args.flowing.now c.clear.new.self i
          (ap (λ (ms : List Bool). is_changed ms i) none ∙ get_or-replicate (length c.args.circuit.now.primitives) i false false lt);
    }

pub mark_joint-requires-clause-giver : goal.mark_joint-requires-clause-giver
mark_joint-requires-clause-giver g c =
    let net : Net = net_of g.P.Primitive.behaviour c.args.circuit.now in
    let k_in = c.requires.flowing.in_range c.loop-index.index (omega arith) in
    let is = subst (λ (j : Joint). IsEnd net.primitives j.giver) (c.joint.ensures no_joint) (c.known.ensures.wired.givers (get_or c.args.flowing.now c.loop-index.index 0) no_joint k_in) in
    omega (arith, is.0, c.loop-index.invariant.one_each, length-map c.args.circuit.now.primitives g.P.Primitive.behaviour)

pub mark_joint-requires-clause-taker : goal.mark_joint-requires-clause-taker
mark_joint-requires-clause-taker g c =
    let net : Net = net_of g.P.Primitive.behaviour c.args.circuit.now in
    let k_in = c.requires.flowing.in_range c.loop-index.index (omega arith) in
    let is = subst (λ (j : Joint). IsEnd net.primitives j.taker) (c.joint.ensures no_joint) (c.known.ensures.wired.takers (get_or c.args.flowing.now c.loop-index.index 0) no_joint k_in) in
    omega (arith, is.0, c.loop-index.invariant.one_each, length-map c.args.circuit.now.primitives g.P.Primitive.behaviour)

pub loop-index-preserved : goal.loop-index-preserved
loop-index-preserved g c =
    let old : List Bool = c.loop-index.marks in
    let j : Joint = c.joint.result in
    record {
      one_each = ap (λ (ms : List Bool). length ms) c.mark_joint.ensures ∙ length-set (set old j.giver.primitive true) j.taker.primitive true ∙ length-set old j.giver.primitive true ∙ c.loop-index.invariant.one_each;
      each = λ i lt. beside_more c.args.circuit.now.joints c.args.flowing.now c.loop-index.index i j old c.mark_joint.new.marks (c.joint.ensures no_joint) c.mark_joint.ensures
          (omega (arith, c.loop-index.invariant.one_each, lt)) (c.loop-index.invariant.each i lt);
    }

pub returns : goal.returns
returns g c =
    let net : Net = net_of g.P.Primitive.behaviour c.args.circuit.now in
    let bs = length-map c.args.circuit.now.primitives g.P.Primitive.behaviour in
    let last : c.loop-index.index ≡ length c.args.flowing.now = omega arith in
    those_beside_flow net c.args.rows.now c.known.ensures.wired c.requires.rows c.args.flowing.now c.requires.flowing c.loop-index.marks (c.loop-index.invariant.one_each ∙ sym bs)
    (λ i lt. rw last at (c.loop-index.invariant.each i (omega (arith, bs, lt))))
