use Rattle.std.proofs.Common.{◌≡◌, false, cond, length, []}
use Rattle.std.specs.Prelude.{IsTrue}
use Rattle.reo_net_base.specs.Net.{net_of}
use Rattle.reo_refute_base.specs.Places.{IsAllowed}
use Rattle.reo_refute_live.specs.OpenBranch.{open_in, IsOpen, IsClosed}
use Rattle.reo_refute.proofs.check.Taking.{Leads}
use Rattle.reo_refute.proofs.check.part.check_part.Given as goal

-- The lines so far lead a reader from one branch to those that are open.
abbrev pub invariant-loop-open : goal.invariant-loop-open
invariant-loop-open g l = record {
  open_is : IsTrue l.open → IsOpen l.judged.lists.now l.live;
  closed_is : l.open ≡ false → IsClosed l.judged.lists.now l.live;
  leads : Leads (net_of g.P.Primitive.behaviour l.judged.circuit.now) l.judged.lists.now (IsAllowed (net_of g.P.Primitive.behaviour l.judged.circuit.now) l.judged.turn l.judged.given.now l.judged.number) l.initial.lines l.lines (cond l.open (open_in l.live) []);
}

abbrev pub decreases-loop-open : goal.decreases-loop-open
decreases-loop-open g l = length l.lines.left
