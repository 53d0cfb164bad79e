use Rattle.std.proofs.Common.{◌∙◌, List, sym}
use Rattle.std.specs.declared.cmp.Ordering.{Ordering}
use Rattle.std.specs.Ordering.{nat_cmp, ordering_then}
use Rattle.std.specs.Cmp.Lexicographic.{slice_cmp}
use Rattle.reo_net_base.specs.Net.{Net, Side, net_of, all_sides}
use Rattle.reo_net_base.specs.First.{leading_positions, class_positions, order_by}
use Rattle.reo_net.proofs.Sides.{rows_length}
use Rattle.reo_net.proofs.colouring.KeyLemmas.{then_differs, then_same, order_is}
use Rattle.reo_net.proofs.colouring.order.compare.Goals as goal

pub returns-then-is_ne : goal.returns-then-is_ne
returns-then-is_ne g c =
    let net : Net = net_of g.P.Primitive.behaviour c.args.circuit.now in
    let ss : List Side = all_sides net.primitives in
    let leading : Ordering = order_by (leading_positions c.args.turn ss 0) c.args.a.now c.args.b.now in
    let rest : Ordering = ordering_then (order_by (class_positions c.args.turn ss 0) c.args.a.now c.args.b.now) (slice_cmp nat_cmp c.args.a.now c.args.b.now) in
    let ne = rw (c.is_ne.ensures, c.order_of_leading-leading.ensures) at c.if-is_ne.true in
    c.order_of_leading-leading.ensures ∙ sym (then_differs leading rest ne)
    ∙ sym (order_is net c.args.turn c.args.a.now c.args.b.now (rows_length ss c.args.a.now c.requires.first) (rows_length ss c.args.b.now c.requires.second))

pub returns-then-is_ne-2 : goal.returns-then-is_ne-2
returns-then-is_ne-2 g c =
    let net : Net = net_of g.P.Primitive.behaviour c.args.circuit.now in
    let ss : List Side = all_sides net.primitives in
    let leading : Ordering = order_by (leading_positions c.args.turn ss 0) c.args.a.now c.args.b.now in
    let classes : Ordering = order_by (class_positions c.args.turn ss 0) c.args.a.now c.args.b.now in
    let rows : Ordering = slice_cmp nat_cmp c.args.a.now c.args.b.now in
    let same = rw (c.is_ne.ensures, c.order_of_leading-leading.ensures) at c.if-is_ne.false in
    let ne = rw (c.is_ne-2.ensures, c.order_of_classes-classes.ensures) at c.if-is_ne-2.true in
    c.order_of_classes-classes.ensures ∙ sym (then_differs classes rows ne) ∙ sym (then_same leading (ordering_then classes rows) same)
    ∙ sym (order_is net c.args.turn c.args.a.now c.args.b.now (rows_length ss c.args.a.now c.requires.first) (rows_length ss c.args.b.now c.requires.second))

pub returns : goal.returns
returns g c =
    let net : Net = net_of g.P.Primitive.behaviour c.args.circuit.now in
    let ss : List Side = all_sides net.primitives in
    let leading : Ordering = order_by (leading_positions c.args.turn ss 0) c.args.a.now c.args.b.now in
    let classes : Ordering = order_by (class_positions c.args.turn ss 0) c.args.a.now c.args.b.now in
    let rows : Ordering = slice_cmp nat_cmp c.args.a.now c.args.b.now in
    let same = rw (c.is_ne.ensures, c.order_of_leading-leading.ensures) at c.if-is_ne.false in
    let same_classes = rw (c.is_ne-2.ensures, c.order_of_classes-classes.ensures) at c.if-is_ne-2.false in
    c.cmp.ensures ∙ sym (then_same classes rows same_classes) ∙ sym (then_same leading (ordering_then classes rows) same)
    ∙ sym (order_is net c.args.turn c.args.a.now c.args.b.now (rows_length ss c.args.a.now c.requires.first) (rows_length ss c.args.b.now c.requires.second))
