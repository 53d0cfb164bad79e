use Rattle.std.proofs.Common.{◌≡◌, ◌<◌, ℕ, List, length, map, get_or, arith, ◌∙◌, sym}
use Rattle.std.proofs.lemmas.List.{get_or_default, length-map, length-set, length-replicate}
use Rattle.reo_net_base.specs.declared.joint.Joint.{Joint}
use Rattle.reo_net_base.specs.Behaviour.{Behaviour}
use Rattle.reo_net_base.specs.Net.{behaviour_at}
use Rattle.reo_net_base.specs.Step.{is_mouth}
use Rattle.reo_net_circuit.proofs.TableLemmas.{mouths_more, mouths_none, first_done}
use Rattle.reo_net_circuit.proofs.tables.mouth_table.Goals as goal

pub loop-index-init : goal.loop-index-init
loop-index-init g c =
    let bs : List Behaviour = map g.P.Primitive.behaviour c.args.primitives.now in
    rw c.in_ok-mouths.ensures record {
      one_each = length-replicate (length c.args.primitives.now) (length c.args.joints.now);
      firsts = λ i lt. mouths_none bs c.args.joints.now (length c.args.primitives.now) i lt;
    }

pub index-old-requires : goal.index-old-requires
index-old-requires g c =
    let d : Joint = c.joint_at-joint.result in
    let is = rw (c.joint_at-joint.ensures d) at (c.requires.takers c.loop-index.index d (omega arith)) in
    omega (arith, is.0, c.loop-index.invariant.one_each, length-map c.args.primitives.now g.P.Primitive.behaviour)

pub is_mouth-requires : goal.is_mouth-requires
is_mouth-requires g c =
    let d : Joint = c.joint_at-joint.result in
    rw (c.joint_at-joint.ensures d) at (c.requires.takers c.loop-index.index d (omega arith))

pub index_mut-requires : goal.index_mut-requires
index_mut-requires g c =
    let d : Joint = c.joint_at-joint.result in
    let is = rw (c.joint_at-joint.ensures d) at (c.requires.takers c.loop-index.index d (omega arith)) in
    omega (arith, is.0, c.loop-index.invariant.one_each, length-map c.args.primitives.now g.P.Primitive.behaviour)

pub loop-index-preserved : goal.loop-index-preserved
loop-index-preserved g c =
    let bs : List Behaviour = map g.P.Primitive.behaviour c.args.primitives.now in
    let d : Joint = c.joint_at-joint.result in
    let mouths : List ℕ = c.loop-index.mouths.items in
    let is = rw (c.joint_at-joint.ensures d) at (c.requires.takers c.loop-index.index d (omega arith)) in
    let p_in : d.taker.primitive < length mouths = omega (arith, is.0, c.loop-index.invariant.one_each, length-map c.args.primitives.now g.P.Primitive.behaviour) in
    let old = c.index-old.ensures ∙ get_or_default mouths d.taker.primitive c.index-old.result.now 0 p_in in
    let first = rw (c.is_mouth.ensures, old) at c.first_so_far-first.ensures in
    let more = mouths_more bs c.args.joints.now c.loop-index.index d mouths (omega arith) c.joint_at-joint.ensures p_in (λ i lt. c.loop-index.invariant.firsts i (omega (arith, c.loop-index.invariant.one_each))) in
    rw first record {
      one_each = length-set mouths d.taker.primitive _ ∙ c.loop-index.invariant.one_each;
      firsts = λ i lt. more i (omega (arith, c.loop-index.invariant.one_each));
    }

pub returns : goal.returns
returns g c =
    let bs : List Behaviour = map g.P.Primitive.behaviour c.args.primitives.now in
    let count : length bs ≡ length c.args.primitives.now = length-map c.args.primitives.now g.P.Primitive.behaviour in
    let d : Joint = record { giver = record { primitive = 0; end = 0 }; taker = record { primitive = 0; end = 0 } } in
    let end : c.loop-index.index ≡ length c.args.joints.now = omega arith in
    rw c.from_vec.ensures record {
      one_each = c.loop-index.invariant.one_each ∙ sym count;
      mouth = λ i lt. sym (first_done (is_mouth (behaviour_at bs i) i) c.args.joints.now (get_or c.loop-index.mouths.items i 0) d (rw end at (c.loop-index.invariant.firsts i (omega (arith, count)))));
    }
