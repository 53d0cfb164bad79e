use Rattle.reo_net_base.specs.Net.{net_of}
use Rattle.reo_reach.specs.Supplied.{AreShort, HasPlaces, OthersStay}
use Rattle.reo_reach.proofs.FilledLemmas.{AreFilled}
use Rattle.reo_reach.proofs.visits.reach_at.Given as goal

-- The joints so far are filled, and all else stays.
abbrev pub invariant-loop-at : goal.invariant-loop-at
invariant-loop-at g l = record {
  places : HasPlaces (net_of g.P.Primitive.behaviour l.circuit) l.supply;
  others : OthersStay l.joints l.initial.supply l.supply;
  short : AreShort l.initial.supply → AreShort l.supply;
  filled : AreFilled (net_of g.P.Primitive.behaviour l.circuit) l.joints l.at l.supply;
}
