use Rattle.reo_net_base.specs.Net.{net_of}
use Rattle.reo_net_circuit.specs.found_ends.Noted.{HasPlaces}
use Rattle.reo_net_circuit.proofs.found_ends.noted.no_joints.Given as goal

abbrev pub invariant-loop-index : goal.invariant-loop-index
invariant-loop-index g l = HasPlaces (net_of g.P.Primitive.behaviour l.circuit).primitives l.index l.table
