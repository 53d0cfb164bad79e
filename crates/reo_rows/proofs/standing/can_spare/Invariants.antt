use Rattle.std.proofs.Common.{◌<◌, ℕ, get_or}
use Rattle.reo_net_base.specs.Net.{net_of}
use Rattle.reo_rows.specs.Sparing.{IsIdle, IsLacking}
use Rattle.reo_rows.proofs.standing.can_spare.Given as goal

abbrev pub invariant-loop-index : goal.invariant-loop-index
invariant-loop-index g l = (m : ℕ) → m < l.index → IsLacking (net_of g.P.Primitive.behaviour l.resting.circuit.now) l.live l.resting.side l.resting.joint l.resting.marks (get_or l.list m 0)
    → IsIdle (net_of g.P.Primitive.behaviour l.resting.circuit.now) l.resting.side (get_or l.list m 0) l.notes
