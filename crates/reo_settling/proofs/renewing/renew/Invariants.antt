use Rattle.std.proofs.Common.{◌-◌, ◌≤◌, length}
use Rattle.reo_net_base.specs.Net.{net_of}
use Rattle.reo_settling.proofs.HeldTables.{AreRenewed}
use Rattle.reo_settling.proofs.renewing.renew.Given as goal

-- The parts so far are right.
abbrev pub invariant-loop-part : goal.invariant-loop-part
invariant-loop-part g l = record {
  in_range : l.part ≤ length l.fresh;
  far : AreRenewed (net_of g.P.Primitive.behaviour l.planning.circuit.now) l.planning.knots.now l.fresh l.part l.tables;
}

abbrev pub decreases-loop-part : goal.decreases-loop-part
decreases-loop-part g l = length l.fresh - l.part
