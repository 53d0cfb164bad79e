use Rattle.std.proofs.Common.{◌<◌, ℕ, slice_index, slice_index_or}
use Rattle.reo_net_base.specs.Net.{Side, all_sides, net_of}
use Rattle.reo_part_plans.specs.declared.looks.Look.{Look}
use Rattle.reo_part_plans.specs.Looks.{IsLookAt}
use Rattle.reo_part_plans.proofs.looks.is_key.Given as goal

-- The sides so far look as the key says.
abbrev pub invariant-loop-index : goal.invariant-loop-index
invariant-loop-index g l = record {
  each : (m : ℕ) (d : Look) (s : Side) → m < l.index
      → IsLookAt (slice_index_or (all_sides (net_of g.P.Primitive.behaviour l.circuit).primitives) (slice_index l.sides m) s).of
      (slice_index_or (all_sides (net_of g.P.Primitive.behaviour l.circuit).primitives) (slice_index l.sides m) s).number l.turn (slice_index_or l.key m d);
}
