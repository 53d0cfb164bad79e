use Rattle.std.proofs.Common.{◌≡◌, false, cond, []}
use Rattle.std.specs.Prelude.{IsTrue}
use Rattle.reo_net_base.specs.Net.{net_of}
use Rattle.reo_refute_base.specs.Places.{IsAllowed}
use Rattle.reo_refute_base.specs.measure.Owed.{owed}
use Rattle.reo_refute_live.specs.OpenBranch.{open_in, IsOpen, IsClosed}
use Rattle.reo_refute.proofs.proving.Writing.{Leads}
use Rattle.reo_refute.proofs.proving.branch.put_whole.Given as goal

-- The lines so far lead a reader from one branch to those that are open.
abbrev pub invariant-loop-open : goal.invariant-loop-open
invariant-loop-open g l = record {
  open_is : IsTrue l.open → IsOpen l.judged.lists.now l.scratch.live;
  closed_is : l.open ≡ false → IsClosed l.judged.lists.now l.scratch.live;
  leads : Leads (net_of g.P.Primitive.behaviour l.judged.circuit.now) l.judged.lists.now (IsAllowed (net_of g.P.Primitive.behaviour l.judged.circuit.now) l.judged.turn l.judged.given.now l.judged.number) [] l.scratch.whole (cond l.open (open_in l.scratch.live) []);
}

abbrev pub decreases-loop-open : goal.decreases-loop-open
decreases-loop-open g l = owed (net_of g.P.Primitive.behaviour l.judged.circuit.now) l.judged.lists.now (cond l.open (open_in l.scratch.live) [])
