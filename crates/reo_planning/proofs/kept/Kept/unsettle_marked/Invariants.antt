use Rattle.std.proofs.Common.{◌≡◌, ◌-◌, ◌<◌, ◌≤◌, true, false, length, get_or}
use Rattle.reo_net_base.specs.Net.{net_of}
use Rattle.reo_planning.specs.Unsettling.{AreMarkedUnsettled}
use Rattle.reo_planning.proofs.kept.Kept.unsettle_marked.Given as goal

-- The parts of the marked primitives so far are not settled, and the next one is marked.
abbrev pub invariant-loop-primitive : goal.invariant-loop-primitive
invariant-loop-primitive g l = record {
  in_range : l.primitive ≤ length l.marks;
  here : l.primitive < length l.marks → get_or l.marks l.primitive false ≡ true;
  far : AreMarkedUnsettled (net_of g.P.Primitive.behaviour l.circuit) l.knots l.marks l.primitive l.initial.self l.self;
}

abbrev pub decreases-loop-primitive : goal.decreases-loop-primitive
decreases-loop-primitive g l = length l.marks - l.primitive
