use Rattle.std.proofs.Common.{ℕ, ◌<◌, map}
use Rattle.reo_net_base.specs.Net.{behaviour_at}
use Rattle.reo_net_base.specs.Wired.{IsPort}
use Rattle.reo_net_circuit.proofs.parts.are_ports.Given as goal

abbrev pub invariant-loop-index : goal.invariant-loop-index
invariant-loop-index g l = (k : ℕ) → k < l.index → IsPort (behaviour_at (map g.P.Primitive.behaviour l.primitives) k)
