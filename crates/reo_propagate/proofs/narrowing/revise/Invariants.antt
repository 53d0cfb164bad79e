use Rattle.reo_net_base.specs.Net.{net_of}
use Rattle.reo_propagate.specs.Queues.{among}
use Rattle.reo_propagate.proofs.Revising.{IsRevising}
use Rattle.reo_propagate.proofs.narrowing.revise.Given as goal

abbrev pub invariant-loop-index : goal.invariant-loop-index
invariant-loop-index g l =
    IsRevising (net_of g.P.Primitive.behaviour l.basis.circuit.now) l.basis.items.now (among l.sides) l.side l.joints l.index l.initial.state l.state
