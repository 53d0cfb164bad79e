use Rattle.std.proofs.Common.{◌<◌, ℕ, slice_index, slice_index_or}
use Rattle.reo_net_base.specs.Net.{Side, all_sides, net_of}
use Rattle.reo_net_laws.specs.state_laws.States.{LetsIn}
use Rattle.reo_part_plans.proofs.given.are_open.Given as goal

-- The sides so far let each item in.
abbrev pub invariant-loop-index : goal.invariant-loop-index
invariant-loop-index g l = record {
  each : (m : ℕ) (s : Side) → m < l.index
      → LetsIn (slice_index_or (all_sides (net_of g.P.Primitive.behaviour l.circuit).primitives) (slice_index l.sides m) s).of
      (slice_index_or (all_sides (net_of g.P.Primitive.behaviour l.circuit).primitives) (slice_index l.sides m) s).number;
}
