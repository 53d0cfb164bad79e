use Rattle.std.proofs.Common.{◌≡◌, ◌<◌, ◌+◌, ◌*◌, ℕ, cond, length, slice_index}
use Rattle.reo_net_base.specs.Net.{net_of, behaviour_at, end_of}
use Rattle.reo_net_circuit.specs.found_ends.Ends.{joint_at}
use Rattle.reo_mark_search.proofs.spots.spots_at.Given as goal

-- The places of the ends so far.
abbrev pub invariant-loop-end : goal.invariant-loop-end
invariant-loop-end g l = record {
  count : length l.made ≡ l.end;
  each : (e : ℕ) → e < l.end → slice_index l.made e
      ≡ 2 * joint_at l.ends (end_of l.primitive e) + cond ((behaviour_at (net_of g.P.Primitive.behaviour l.circuit).primitives l.primitive).takes_in e) 1 0;
}
