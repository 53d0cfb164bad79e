use Rattle.std.proofs.Common.{◌≡◌, ◌<◌, length, arith}
use Rattle.std.proofs.lemmas.List.{length-map}
use Rattle.reo_net_base.specs.Net.{Net, net_of, end_of}
use Rattle.reo_net_circuit.specs.found_ends.Ends.{joint_at}
use Rattle.reo_mark_search.proofs.spots.spot.Goals as goal

pub overflow_mul-result : goal.overflow_mul-result
overflow_mul-result g c =
    let net : Net = net_of g.P.Primitive.behaviour c.args.circuit.now in
    let count : length net.primitives ≡ length c.args.circuit.now.primitives = length-map c.args.circuit.now.primitives g.P.Primitive.behaviour in
    let below : joint_at c.args.ends.now (end_of c.args.primitive c.args.end) < length net.joints = c.requires.ends.in_range (end_of c.args.primitive c.args.end) (omega (arith, count, c.requires.primitive), c.requires.end) in
    let few = c.known.ensures.few_joints in
    let is = c.joint_at-joint.ensures in
    omega (arith, below, few, is)

pub overflow_add-result : goal.overflow_add-result
overflow_add-result g c =
    let net : Net = net_of g.P.Primitive.behaviour c.args.circuit.now in
    let count : length net.primitives ≡ length c.args.circuit.now.primitives = length-map c.args.circuit.now.primitives g.P.Primitive.behaviour in
    let below : joint_at c.args.ends.now (end_of c.args.primitive c.args.end) < length net.joints = c.requires.ends.in_range (end_of c.args.primitive c.args.end) (omega (arith, count, c.requires.primitive), c.requires.end) in
    let few = c.known.ensures.few_joints in
    let is = c.joint_at-joint.ensures in
    omega (arith, below, few, is)

pub overflow_mul-result-else-takes_in : goal.overflow_mul-result-else-takes_in
overflow_mul-result-else-takes_in g c =
    let net : Net = net_of g.P.Primitive.behaviour c.args.circuit.now in
    let count : length net.primitives ≡ length c.args.circuit.now.primitives = length-map c.args.circuit.now.primitives g.P.Primitive.behaviour in
    let below : joint_at c.args.ends.now (end_of c.args.primitive c.args.end) < length net.joints = c.requires.ends.in_range (end_of c.args.primitive c.args.end) (omega (arith, count, c.requires.primitive), c.requires.end) in
    let few = c.known.ensures.few_joints in
    let is = c.joint_at-joint.ensures in
    omega (arith, below, few, is)
