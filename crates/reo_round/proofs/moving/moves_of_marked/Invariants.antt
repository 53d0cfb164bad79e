use Rattle.std.proofs.Common.{◌≡◌, ◌-◌, ℕ, List, min}
use Rattle.reo_net_base.specs.Colouring.{IsColouring}
use Rattle.reo_net_base.specs.Net.{net_of}
use Rattle.reo_net_base.specs.Moves.{moves_of}
use Rattle.reo_flows.specs.stepping.Changes.{AreThoseThatFlowed}
use Rattle.reo_round.proofs.moving.moves_of_marked.Given as goal

-- The ports so far have moved.
abbrev pub invariant-loop-port : goal.invariant-loop-port
invariant-loop-port g l = (rows : List ℕ) → IsColouring (net_of g.P.Primitive.behaviour l.circuit) rows l.items → AreThoseThatFlowed (net_of g.P.Primitive.behaviour l.circuit) rows l.marks
    → l.moves ≡ moves_of (net_of g.P.Primitive.behaviour l.circuit) (min l.port l.circuit.ports) rows l.items

abbrev pub decreases-loop-port : goal.decreases-loop-port
decreases-loop-port g l = l.circuit.ports - l.port
