use Rattle.std.proofs.Common.{◌∙◌, List, arith}
use Rattle.std.specs.declared.cmp.Ordering.{Ordering}
use Rattle.reo_net_base.specs.Net.{Net, Side, net_of, all_sides, no_side}
use Rattle.reo_net.proofs.colouring.KeyLemmas.{classes_from, classes_differ, classes_agree}
use Rattle.reo_net.proofs.colouring.order.order_of_classes.Goals as goal

pub returns-then-is_ne : goal.returns-then-is_ne
returns-then-is_ne g c =
    let net : Net = net_of g.P.Primitive.behaviour c.args.circuit.now in
    let ss : List Side = all_sides net.primitives in
    let whole : Ordering = classes_from c.args.turn ss c.args.a.now c.args.b.now 0 in
    let ne = rw (c.is_ne.ensures, c.class_order-order.ensures no_side) at c.if-is_ne.true in
    c.class_order-order.ensures no_side ∙ classes_differ c.args.turn ss c.args.a.now c.args.b.now c.loop-side.side no_side whole (omega arith) ne c.loop-side.invariant

pub loop-side-preserved : goal.loop-side-preserved
loop-side-preserved g c =
    let net : Net = net_of g.P.Primitive.behaviour c.args.circuit.now in
    let ss : List Side = all_sides net.primitives in
    let whole : Ordering = classes_from c.args.turn ss c.args.a.now c.args.b.now 0 in
    let ne = rw (c.is_ne.ensures, c.class_order-order.ensures no_side) at c.if-is_ne.false in
    classes_agree c.args.turn ss c.args.a.now c.args.b.now c.loop-side.side no_side whole (omega arith) ne c.loop-side.invariant
