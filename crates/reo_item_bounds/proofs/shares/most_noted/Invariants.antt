use Rattle.std.proofs.Common.{◌≡◌, ◌<◌, ◌≤◌, ℕ, true, slice_index}
use Rattle.reo_net_base.specs.Net.{net_of, behaviour_at, end_of}
use Rattle.reo_net_circuit.specs.found_ends.Ends.{joint_at}
use Rattle.reo_item_bounds.proofs.shares.most_noted.Given as goal

-- The greatest of those so far.
abbrev pub invariant-loop-end : goal.invariant-loop-end
invariant-loop-end g l = (end : ℕ) → end < l.end
    → (behaviour_at (net_of g.P.Primitive.behaviour l.circuit).primitives l.primitive).takes_in end ≡ true
    → slice_index l.bounds (joint_at l.ends (end_of l.primitive end)) ≤ l.most
