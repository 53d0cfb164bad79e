use Rattle.std.proofs.Common.{◌≡◌, ◌∙◌, length, arith, ap}
use Rattle.std.proofs.lemmas.List.{length-map}
use Rattle.reo_net_base.specs.Behaviour.{Behaviour}
use Rattle.reo_net_base.specs.Net.{Net, net_of}
use Rattle.reo_net_circuit.proofs.found_ends.NoteLemmas.{more_places}
use Rattle.reo_net_circuit.proofs.found_ends.noted.no_joints.Goals as goal

pub loop-index-preserved : goal.loop-index-preserved
loop-index-preserved g c =
    let net : Net = net_of g.P.Primitive.behaviour c.args.circuit.now in
    rw c.in_ok-push.ensures.ok
    (more_places net.primitives c.loop-index.index c.loop-index.table c.in_ok-list.list c.loop-index.invariant
    (c.in_ok-list.ensures ∙ c.ends.ensures ∙ ap (λ (b : Behaviour). b.ends) c.primitive.ensures.behaviour))

pub returns : goal.returns
returns g c =
    let net : Net = net_of g.P.Primitive.behaviour c.args.circuit.now in
    let count : length net.primitives ≡ length c.args.circuit.now.primitives = length-map c.args.circuit.now.primitives g.P.Primitive.behaviour in
    let last : c.loop-index.index ≡ length net.primitives = omega (arith, count, ap length c.primitives-index-end.ensures) in
    rw (c.into_vec.ensures, ← last) c.loop-index.invariant
