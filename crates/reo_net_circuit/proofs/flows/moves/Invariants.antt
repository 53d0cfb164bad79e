use Rattle.std.proofs.Common.{◌≡◌}
use Rattle.reo_net_base.specs.Net.{net_of}
use Rattle.reo_net_base.specs.Moves.{moves_of}
use Rattle.reo_net_circuit.proofs.flows.moves.Given as goal

abbrev pub invariant-loop-port : goal.invariant-loop-port
invariant-loop-port g l = l.moves ≡ moves_of (net_of g.P.Primitive.behaviour l.circuit) l.port l.colouring.rows l.colouring.items
