use Rattle.std.proofs.Common.{◌≡◌, ◌-◌, ◌<◌, ◌≤◌, true, false, length, get_or}
use Rattle.reo_net_base.specs.Net.{net_of}
use Rattle.reo_planning.specs.Unsettling.{AreBetweenUnsettled}
use Rattle.reo_planning.proofs.kept.Kept.unsettle_between.Given as goal

-- The parts of the marked primitives so far that have two sides are not settled, and the next one is marked.
abbrev pub invariant-loop-primitive : goal.invariant-loop-primitive
invariant-loop-primitive g l = record {
  in_range : l.primitive ≤ length l.marks;
  here : l.primitive < length l.marks → get_or l.marks l.primitive false ≡ true;
  far : AreBetweenUnsettled (net_of g.P.Primitive.behaviour l.circuit) l.knots l.marks l.primitive l.initial.self l.self;
}

abbrev pub decreases-loop-primitive : goal.decreases-loop-primitive
decreases-loop-primitive g l = length l.marks - l.primitive
