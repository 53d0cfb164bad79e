use Rattle.std.proofs.Common.{◌<◌, ℕ}
use Rattle.reo_net_base.specs.Net.{net_of}
use Rattle.reo_refute_base.specs.Places.{IsAllowed}
use Rattle.reo_refute_live.specs.support.Families.{family_of}
use Rattle.reo_refute.specs.next.Next.{IsKept}
use Rattle.reo_refute.proofs.next.next.kept_or_line.Given as goal

-- At each of the joints so far some value is live, and none may go.
abbrev pub invariant-loop-joint : goal.invariant-loop-joint
invariant-loop-joint g l = (j : ℕ) → j < l.joint
    → IsKept (net_of g.P.Primitive.behaviour l.judged.circuit.now) l.judged.lists.now (IsAllowed (net_of g.P.Primitive.behaviour l.judged.circuit.now) l.judged.turn l.judged.given.now l.judged.number) (family_of l.live.table) j
