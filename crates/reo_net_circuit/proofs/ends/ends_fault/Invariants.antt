use Rattle.std.proofs.Common.{ℕ, ◌<◌}
use Rattle.reo_net_base.specs.Net.{net_of}
use Rattle.reo_net_circuit.specs.Parts.{wiring_of}
use Rattle.reo_net_circuit.specs.Fault.{IsBound}
use Rattle.reo_net_circuit.proofs.ends.ends_fault.Given as goal

abbrev pub invariant-loop-index : goal.invariant-loop-index
invariant-loop-index g l = (k : ℕ) → k < l.index → IsBound (net_of g.P.Primitive.behaviour (wiring_of l.primitives 0 l.joints)) k
