use Rattle.std.proofs.Common.{◌≡◌}
use Rattle.reo_net_base.specs.Net.{Net, net_of, all_sides}
use Rattle.reo_net.proofs.colouring.KeyLemmas.{classes_from}
use Rattle.reo_net.proofs.colouring.order.order_of_classes.Given as goal

-- The comparison of what is left is that of the whole.
abbrev pub invariant-loop-side : goal.invariant-loop-side
invariant-loop-side g l =
    let net : Net = net_of g.P.Primitive.behaviour l.circuit in
    classes_from l.turn (all_sides net.primitives) l.a l.b l.side ≡ classes_from l.turn (all_sides net.primitives) l.a l.b 0
