use Rattle.reo_net_base.specs.Net.{net_of}
use Rattle.reo_propagate.specs.Queues.{among}
use Rattle.reo_propagate.specs.Basis.{IsSearchOn}
use Rattle.reo_walk.specs.Pins.{ArePinned}
use Rattle.reo_walk.proofs.pinning.pin.Given as goal

abbrev pub invariant-loop-index : goal.invariant-loop-index
invariant-loop-index g l = record {
  pinned : ArePinned l.joints l.codes l.index l.initial.state.alive l.state.alive;
  search : IsSearchOn (net_of g.P.Primitive.behaviour l.basis.circuit.now) l.basis (among l.sides) l.state;
}
