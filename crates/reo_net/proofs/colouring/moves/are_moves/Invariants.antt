use Rattle.std.proofs.Common.{◌≡◌, ◌≤◌, length, take}
use Rattle.reo_net_base.specs.Net.{net_of}
use Rattle.reo_net_base.specs.Moves.{moves_of}
use Rattle.reo_net.proofs.colouring.moves.are_moves.Given as goal

-- The first moves are those of the ports so far.
abbrev pub invariant-loop-port : goal.invariant-loop-port
invariant-loop-port g l = (l.next ≤ length l.moves) × (take l.next l.moves ≡ moves_of (net_of g.P.Primitive.behaviour l.circuit) l.port l.rows l.items)
