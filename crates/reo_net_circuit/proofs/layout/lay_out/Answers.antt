use Rattle.std.proofs.Common.{◌≡◌, ◌∙◌, ◌<◌, ℕ, sym, ap, List, length, map, arith}
use Rattle.std.proofs.lemmas.List.{length-map, get_or-map}
use Rattle.reo_net_base.specs.Behaviour.{Behaviour, nothing}
use Rattle.reo_net_base.specs.Net.{behaviour_at}
use Rattle.reo_net_circuit.proofs.LayoutLemmas.{firsts_push, owners_add, owners_count}
use Rattle.reo_net_circuit.proofs.layout.lay_out.Goals as goal

pub loop-primitive-preserved : goal.loop-primitive-preserved
loop-primitive-preserved g c =
    let bs : List Behaviour = map g.P.Primitive.behaviour c.args.primitives.now in
    let p : ℕ = c.loop-primitive.primitive in
    let in_primitives : p < length c.args.primitives.now = omega arith in
    let p_in : p < length bs = omega (arith, length-map c.args.primitives.now g.P.Primitive.behaviour) in
    let one = c.index-primitives-primitive.result in
    let behaviour : behaviour_at bs p ≡ g.P.Primitive.behaviour one =
    get_or-map g.P.Primitive.behaviour c.args.primitives.now p one nothing in_primitives ∙ ap g.P.Primitive.behaviour (sym c.index-primitives-primitive.is) in
    let sides : c.sides.result ≡ (behaviour_at bs p).sides = rw behaviour c.sides.ensures in
    record {
      firsts = rw c.in_ok-push.ensures.ok (firsts_push bs c.loop-primitive.firsts p c.len.result c.loop-primitive.invariant.firsts (c.len.ensures ∙ c.loop-primitive.invariant.count));
      count = ap length c.in_ok-add_owners.ensures ∙ owners_count bs c.loop-primitive.owners c.loop-primitive.invariant.owners p c.sides.result p_in c.loop-primitive.invariant.count sides;
      owners = rw c.in_ok-add_owners.ensures (owners_add bs c.loop-primitive.owners c.loop-primitive.invariant.owners p c.sides.result p_in c.loop-primitive.invariant.count sides);
    }
