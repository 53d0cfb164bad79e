use Rattle.std.proofs.Common.{ℕ, ◌<◌, get_or}
use Rattle.reo_net_base.specs.declared.joint.Joint.{Joint}
use Rattle.reo_net_base.specs.Net.{net_of}
use Rattle.reo_net_circuit.specs.Parts.{wiring_of}
use Rattle.reo_net_circuit.specs.Fault.{GoesRight}
use Rattle.reo_net_circuit.proofs.way.way_fault.Given as goal

abbrev pub invariant-loop-index : goal.invariant-loop-index
invariant-loop-index g l = (k : ℕ) (d : Joint) → k < l.index → GoesRight (net_of g.P.Primitive.behaviour (wiring_of l.primitives 0 l.joints)) (get_or l.joints k d)
