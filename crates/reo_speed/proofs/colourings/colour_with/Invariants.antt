use Rattle.reo_net_base.specs.Net.{net_of}
use Rattle.reo_search.specs.Tables.{AreBegun}
use Rattle.reo_speed.proofs.colourings.colour_with.Given as goal

-- The tables stay what a search begins over.
abbrev pub invariant-loop : goal.invariant-loop
invariant-loop g l = AreBegun (net_of g.P.Primitive.behaviour l.wanted.circuit.now) l.wanted l.tables l.state
