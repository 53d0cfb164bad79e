use Rattle.std.proofs.Common.{◌≤◌}
use Rattle.reo_net_base.specs.Net.{net_of, behaviour_at}
use Rattle.reo_item_bounds.specs.Shares.{AreShared}
use Rattle.reo_item_bounds.proofs.shares.shared.Given as goal

-- The rows so far have shares whose sum is no greater, where it is small.
abbrev pub invariant-loop-row : goal.invariant-loop-row
invariant-loop-row g l = l.sum ≤ 256
    → AreShared (behaviour_at (net_of g.P.Primitive.behaviour l.circuit).primitives l.giver.primitive) l.giver l.form l.ends l.bounds l.row l.sum
