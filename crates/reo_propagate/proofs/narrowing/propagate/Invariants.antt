use Rattle.std.proofs.Common.{◌+◌, length}
use Rattle.reo_net_base.specs.Net.{net_of}
use Rattle.reo_rows.specs.RowFlags.{count_set}
use Rattle.reo_rows.specs.Sets.{names_of}
use Rattle.reo_propagate.specs.Queues.{among}
use Rattle.reo_propagate.specs.Narrow.{IsReduced}
use Rattle.reo_propagate.specs.Basis.{IsSearchOn}
use Rattle.reo_propagate.proofs.narrowing.propagate.Given as goal

abbrev pub invariant-loop-side : goal.invariant-loop-side
invariant-loop-side g l = record {
  reduced : IsReduced (net_of g.P.Primitive.behaviour l.basis.circuit.now) (names_of l.basis.items.now) (among l.sides) l.initial.state.alive l.state.alive;
  search : IsSearchOn (net_of g.P.Primitive.behaviour l.basis.circuit.now) l.basis (among l.sides) l.state;
}

abbrev pub decreases-loop-side : goal.decreases-loop-side
decreases-loop-side g l = count_set l.state.alive + length l.state.queue.line
