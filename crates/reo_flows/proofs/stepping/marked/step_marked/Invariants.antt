use Rattle.std.proofs.Common.{◌-◌, ◌≤◌, length}
use Rattle.reo_flows.proofs.stepping.Far.{IsFar}
use Rattle.reo_flows.proofs.stepping.marked.step_marked.Given as goal

-- The primitives so far have gone on.
abbrev pub invariant-loop-index : goal.invariant-loop-index
invariant-loop-index g l = record {
  in_range : l.index ≤ length l.marks;
  far : IsFar g.P.Primitive.behaviour g.P.Primitive.settled l.initial.circuit l.rows l.initial.items l.index l.circuit l.items;
}

abbrev pub decreases-loop-index : goal.decreases-loop-index
decreases-loop-index g l = length l.marks - l.index
