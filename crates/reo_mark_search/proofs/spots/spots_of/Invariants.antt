use Rattle.std.proofs.Common.{◌≡◌, ◌<◌, ◌+◌, ◌*◌, ℕ, [], cond, length, slice_index, slice_index_or}
use Rattle.reo_net_base.specs.Net.{net_of, behaviour_at, end_of}
use Rattle.reo_net_circuit.specs.found_ends.Ends.{joint_at}
use Rattle.reo_mark_search.proofs.spots.spots_of.Given as goal

-- The places of the ends of the primitives so far.
abbrev pub invariant-loop-primitive : goal.invariant-loop-primitive
invariant-loop-primitive g l = record {
  count : length l.made ≡ l.primitive;
  one_each : (i : ℕ) → i < l.primitive → length (slice_index_or l.made i []) ≡ (behaviour_at (net_of g.P.Primitive.behaviour l.circuit).primitives i).ends;
  each : (i e : ℕ) → i < l.primitive → e < (behaviour_at (net_of g.P.Primitive.behaviour l.circuit).primitives i).ends → slice_index (slice_index_or l.made i []) e
      ≡ 2 * joint_at l.ends (end_of i e) + cond ((behaviour_at (net_of g.P.Primitive.behaviour l.circuit).primitives i).takes_in e) 1 0;
}
