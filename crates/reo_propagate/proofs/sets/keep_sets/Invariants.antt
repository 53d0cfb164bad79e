use Rattle.std.proofs.Common.{◌≡◌, ◌↔◌, true, take}
use Rattle.reo_net_base.specs.Net.{net_of}
use Rattle.reo_joint_values.specs.Values.{giver_side}
use Rattle.reo_propagate.specs.Queues.{among}
use Rattle.reo_propagate.specs.ListedSets.{AreKept, HaveSome}
use Rattle.reo_propagate.proofs.sets.keep_sets.Given as goal

abbrev pub invariant-loop-side : goal.invariant-loop-side
invariant-loop-side g l = record {
  kept : AreKept (λ j. among (take l.side-index l.sides) (giver_side (net_of g.P.Primitive.behaviour l.circuit) j)) l.alive l.initial.sets.values l.sets.values;
  some : (l.full ≡ true) ↔ HaveSome (λ j. among (take l.side-index l.sides) (giver_side (net_of g.P.Primitive.behaviour l.circuit) j)) l.sets.values;
}
