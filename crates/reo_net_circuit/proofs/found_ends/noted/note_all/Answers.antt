use Rattle.std.proofs.Common.{◌≡◌, length, arith}
use Rattle.reo_net_base.specs.declared.joint.Joint.{Joint}
use Rattle.reo_net_base.specs.Net.{Net, net_of}
use Rattle.reo_net_circuit.proofs.found_ends.NoteLemmas.{has_end, same_places, more_noted}
use Rattle.reo_net_circuit.proofs.found_ends.noted.note_all.Goals as goal

pub note_joint-requires-clause-giver : goal.note_joint-requires-clause-giver
note_joint-requires-clause-giver g c =
    let net : Net = net_of g.P.Primitive.behaviour c.args.circuit.now in
    let d : Joint = c.joint.result in
    has_end net.primitives c.loop-index.table.items c.loop-index.invariant.places d.giver (rw (c.joint.ensures d) at (c.known.ensures.wired.givers c.loop-index.index d (omega arith)))

pub note_joint-requires-clause-taker : goal.note_joint-requires-clause-taker
note_joint-requires-clause-taker g c =
    let net : Net = net_of g.P.Primitive.behaviour c.args.circuit.now in
    let d : Joint = c.joint.result in
    has_end net.primitives c.loop-index.table.items c.loop-index.invariant.places d.taker (rw (c.joint.ensures d) at (c.known.ensures.wired.takers c.loop-index.index d (omega arith)))

pub loop-index-preserved : goal.loop-index-preserved
loop-index-preserved g c =
    let net : Net = net_of g.P.Primitive.behaviour c.args.circuit.now in
    record {
      places = same_places net.primitives (length net.primitives) c.loop-index.table.items c.note_joint.new.table.items c.note_joint.ensures.same c.loop-index.invariant.places;
      noted = more_noted net c.known.ensures.wired c.loop-index.index c.joint.result c.loop-index.table.items c.note_joint.new.table.items (omega arith) c.joint.ensures c.note_joint.ensures.noted c.loop-index.invariant.noted;
    }

pub returns-clause-noted : goal.returns-clause-noted
returns-clause-noted g c =
    let last : c.loop-index.index ≡ length c.args.circuit.now.joints = omega arith in
    rw (← last) c.loop-index.invariant.noted
