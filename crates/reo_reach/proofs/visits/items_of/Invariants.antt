use Rattle.std.proofs.Common.{[]}
use Rattle.reo_net_base.specs.Net.{net_of}
use Rattle.reo_reach.specs.Added.{AreAdded, IsProduced}
use Rattle.reo_reach.proofs.AddedLemmas.{Below}
use Rattle.reo_reach.proofs.visits.items_of.Given as goal

-- What the rows so far produce is added.
abbrev pub invariant-loop-row : goal.invariant-loop-row
invariant-loop-row g l = AreAdded [] l.items (Below (IsProduced (net_of g.P.Primitive.behaviour l.circuit) l.supply l.giver) l.row)
