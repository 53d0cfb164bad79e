use Rattle.std.proofs.Common.{◌≡◌, length}
use Rattle.reo_net_base.proofs.order.FrontLemmas.{front_off, back_off}
use Rattle.reo_net_base.proofs.order.ordering.order_or_cycle.Goals as goal

pub least_on_cycle-requires-clause-front : goal.least_on_cycle-requires-clause-front
least_on_cycle-requires-clause-front c =
    rw c.deref-in-Some.ensures.value (front_off c.in_ok-outs.outs.ends.items c.in_ok-ins.ins.ends.items c.in_ok-front.front.order.items c.in_ok-front.front.placed.items c.in_ok-front.ensures)

pub least_on_cycle-requires-clause-back : goal.least_on_cycle-requires-clause-back
least_on_cycle-requires-clause-back c =
    let one_each : length c.in_ok-ins.ins.ends.items ≡ length c.in_ok-outs.outs.ends.items = rw (c.in_ok-ins.ensures.ends, c.in_ok-outs.ensures.ends) c.requires.arrows in
    rw c.deref-in-Some-2.ensures.value (back_off c.in_ok-outs.outs.ends.items c.in_ok-ins.ins.ends.items one_each c.in_ok-back-in-Some.back.order.items c.in_ok-back-in-Some.back.placed.items c.in_ok-back-in-Some.ensures)

pub unreachable-requires : goal.unreachable-requires
unreachable-requires c =
    let left = rw (c.in-Some.is, c.deref.ensures.value) at c.unplaced.ensures in
    let cycle = c.in_ok-front.ensures.left c.in-Some.field-0 (rw c.in_ok-front.ensures.queue.flags at left.0) left.1 in
    let none = rw c.in-None-2.is at c.in_ok-arrow-in-Some.ensures in
    none cycle.0 cycle.1
