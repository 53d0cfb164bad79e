use Rattle.std.proofs.Common.{◌≡◌, ◌-◌, ◌<◌, ◌≤◌, false, length}
use Rattle.reo_net_base.specs.Net.{net_of}
use Rattle.reo_planning.specs.Keeping.{is_settled}
use Rattle.reo_planning.specs.Marked.{AreMarked}
use Rattle.reo_planning.proofs.kept.Kept.mark_rest.Given as goal

-- The parts so far are marked, and the next one is not settled.
abbrev pub invariant-loop-part : goal.invariant-loop-part
invariant-loop-part g l = record {
  in_range : l.part ≤ length l.self.settled;
  here : l.part < length l.self.settled → is_settled l.self l.part ≡ false;
  far : AreMarked (net_of g.P.Primitive.behaviour l.circuit) l.knots l.rows l.part l.initial.self l.self;
}

abbrev pub decreases-loop-part : goal.decreases-loop-part
decreases-loop-part g l = length l.self.settled - l.part
