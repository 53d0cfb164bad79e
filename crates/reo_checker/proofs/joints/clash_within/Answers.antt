use Rattle.std.proofs.Common.{◌≡◌, ◌∙◌, ◌+◌, ℕ, List, length, take, arith}
use Rattle.std.proofs.lemmas.List.{length-set, length-take-le}
use Rattle.reo_net_base.specs.Net.{Net, net_of}
use Rattle.reo_checker.proofs.ChunkLemmas.{bytes_more, bytes_front, joints_within, first_clash}
use Rattle.reo_checker.proofs.joints.clash_within.Goals as goal

pub mark_at-requires-clause-end : goal.mark_at-requires-clause-end
mark_at-requires-clause-end g c =
    rw (c.joint-joint.ensures c.joint-joint.result) at (c.known.ensures.wired.givers (c.args.from + c.loop-offset.offset) c.joint-joint.result (omega (arith, c.requires.in_range)))

pub mark_at-requires-in-loop-offset-clause-end : goal.mark_at-requires-in-loop-offset-clause-end
mark_at-requires-in-loop-offset-clause-end g c =
    rw (c.joint-joint.ensures c.joint-joint.result) at (c.known.ensures.wired.takers (c.args.from + c.loop-offset.offset) c.joint-joint.result (omega (arith, c.requires.in_range)))

pub loop-offset-preserved : goal.loop-offset-preserved
loop-offset-preserved g c =
    let net : Net = net_of g.P.Primitive.behaviour c.args.circuit.now in
    let long = c.loop-offset.invariant in
    let more = bytes_more net c.args.rows.now c.args.from c.loop-offset.offset c.loop-offset.givers c.loop-offset.takers c.joint-joint.result (omega (arith, c.requires.few, long.0)) (omega (arith, c.requires.few, long.1)) c.joint-joint.ensures long.2 in
    (length-set c.loop-offset.givers c.loop-offset.offset c.byte_of.result ∙ long.0, length-set c.loop-offset.takers c.loop-offset.offset c.byte_of-in-loop-offset.result ∙ long.1, rw (c.byte_of.ensures, c.mark_at.ensures, c.byte_of-in-loop-offset.ensures, c.mark_at-in-loop-offset.ensures) more)

pub returns-in-Some : goal.returns-in-Some
returns-in-Some g c =
    let net : Net = net_of g.P.Primitive.behaviour c.args.circuit.now in
    let end : c.loop-offset.offset ≡ c.args.count = omega arith in
    let count : length (take c.args.count c.loop-offset.givers) ≡ c.args.count = length-take-le c.args.count c.loop-offset.givers (omega (arith, c.requires.few, c.loop-offset.invariant.0)) in
    let givers : List ℕ = take c.args.count c.loop-offset.givers in
    let takers : List ℕ = take c.args.count c.loop-offset.takers in
    first_clash net c.args.rows.now c.args.from c.args.count givers takers
    (bytes_front net c.args.rows.now c.args.from c.args.count c.loop-offset.givers c.loop-offset.takers (rw end at c.loop-offset.invariant.2))
    c.in-Some.offset (rw count at c.in-Some.ensures)

pub returns-in-None : goal.returns-in-None
returns-in-None g c =
    let net : Net = net_of g.P.Primitive.behaviour c.args.circuit.now in
    let end : c.loop-offset.offset ≡ c.args.count = omega arith in
    let count : length (take c.args.count c.loop-offset.givers) ≡ c.args.count = length-take-le c.args.count c.loop-offset.givers (omega (arith, c.requires.few, c.loop-offset.invariant.0)) in
    let givers : List ℕ = take c.args.count c.loop-offset.givers in
    let takers : List ℕ = take c.args.count c.loop-offset.takers in
    joints_within net c.args.rows.now c.args.from c.args.count givers takers
    (bytes_front net c.args.rows.now c.args.from c.args.count c.loop-offset.givers c.loop-offset.takers (rw end at c.loop-offset.invariant.2))
    c.args.count (omega arith) (rw count at c.in-None.ensures)
