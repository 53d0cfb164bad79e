use Rattle.std.proofs.Common.{◌≡◌, ◌<◌, ℕ, Some, None, slice_index, slice_index_or}
use Rattle.reo_values.specs.declared.value.Value.{Value}
use Rattle.reo_net_base.specs.Net.{Side, all_sides, net_of}
use Rattle.reo_part_plans.specs.Given.{GivesOnly}
use Rattle.reo_part_plans.proofs.given.are_given.Given as goal

-- The items so far are given.
abbrev pub invariant-loop-index : goal.invariant-loop-index
invariant-loop-index g l = record {
  each : (m : ℕ) (item : Value) (s : Side) → m < l.index → slice_index_or l.items m None ≡ Some item
      → GivesOnly (slice_index_or (all_sides (net_of g.P.Primitive.behaviour l.circuit).primitives) (slice_index l.sides m) s).of
      (slice_index_or (all_sides (net_of g.P.Primitive.behaviour l.circuit).primitives) (slice_index l.sides m) s).number (Some item);
}
