use Rattle.reo_net_base.specs.Net.{net_of}
use Rattle.reo_propagate.specs.Queues.{among}
use Rattle.reo_propagate.specs.Basis.{IsSearchOn}
use Rattle.reo_walk.specs.Holding.{IsHeldSoFar, AllSuit}
use Rattle.reo_walk.proofs.hold.hold.Given as goal

abbrev pub invariant-loop-index : goal.invariant-loop-index
invariant-loop-index g l = record {
  held : IsHeldSoFar (net_of g.P.Primitive.behaviour l.basis.circuit.now) l.place l.row l.initial.state.alive l.state.alive;
  suits : AllSuit (net_of g.P.Primitive.behaviour l.basis.circuit.now) l.place l.row l.joints l.index l.state.alive;
  search : IsSearchOn (net_of g.P.Primitive.behaviour l.basis.circuit.now) l.basis (among l.sides) l.state;
}
