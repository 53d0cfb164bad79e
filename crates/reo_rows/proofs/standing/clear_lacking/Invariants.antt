use Rattle.reo_net_base.specs.Net.{net_of}
use Rattle.reo_rows.specs.RowFlags.{AreAlikeTables}
use Rattle.reo_rows.specs.Sparing.{AreCleared}
use Rattle.reo_rows.proofs.standing.clear_lacking.Given as goal

abbrev pub invariant-loop-index : goal.invariant-loop-index
invariant-loop-index g l = record {
  alike : AreAlikeTables l.initial.live l.live;
  cleared : AreCleared (net_of g.P.Primitive.behaviour l.resting.circuit.now) l.resting.side l.resting.joint l.resting.marks l.list l.index l.initial.live l.live;
}
