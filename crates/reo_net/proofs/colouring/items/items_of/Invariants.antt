use Rattle.std.proofs.Common.{◌≡◌, length}
use Rattle.reo_net_base.specs.Net.{net_of}
use Rattle.reo_net.proofs.colouring.FilledBefore.{AreFilledBefore}
use Rattle.reo_net.proofs.colouring.items.items_of.Given as goal

-- The joints so far in the order have their items.
abbrev pub invariant-loop-at : goal.invariant-loop-at
invariant-loop-at g l = record {
  one_each : length l.items.items ≡ length l.circuit.joints;
  filled : AreFilledBefore (net_of g.P.Primitive.behaviour l.circuit) l.rows l.order l.at l.items.items;
}
