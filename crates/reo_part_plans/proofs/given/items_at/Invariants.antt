use Rattle.std.proofs.Common.{◌≡◌, ◌<◌, ℕ, Option, length, slice_index, slice_index_or}
use Rattle.reo_values.specs.declared.value.Value.{Value}
use Rattle.reo_net_base.specs.Net.{Side, all_sides, net_of}
use Rattle.reo_part_plans.specs.Given.{GivesOnly}
use Rattle.reo_part_plans.proofs.given.items_at.Given as goal

-- What the state gives at the sides so far.
abbrev pub invariant-loop-index : goal.invariant-loop-index
invariant-loop-index g l = record {
  one_each : length l.items ≡ l.index;
  each : (m : ℕ) (d : Option Value) (s : Side) → m < l.index
      → GivesOnly (slice_index_or (all_sides (net_of g.P.Primitive.behaviour l.circuit).primitives) (slice_index l.sides m) s).of
      (slice_index_or (all_sides (net_of g.P.Primitive.behaviour l.circuit).primitives) (slice_index l.sides m) s).number (slice_index_or l.items m d);
}
