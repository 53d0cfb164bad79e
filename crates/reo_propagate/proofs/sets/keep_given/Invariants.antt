use Rattle.std.proofs.Common.{◌≡◌, ◌↔◌, true}
use Rattle.reo_net_base.specs.Net.{net_of}
use Rattle.reo_propagate.specs.ListedSets.{AreKept, HaveSome}
use Rattle.reo_propagate.proofs.Kept.{at_first}
use Rattle.reo_propagate.proofs.sets.keep_given.Given as goal

abbrev pub invariant-loop-index : goal.invariant-loop-index
invariant-loop-index g l = record {
  kept : AreKept (at_first (net_of g.P.Primitive.behaviour l.circuit) l.side l.board.joints l.index) l.alive l.initial.sets.values l.sets.values;
  some : (l.full ≡ true) ↔ HaveSome (at_first (net_of g.P.Primitive.behaviour l.circuit) l.side l.board.joints l.index) l.sets.values;
}
