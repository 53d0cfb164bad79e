use Rattle.std.proofs.Common.{◌∙◌, List, sym, arith}
use Rattle.std.specs.declared.cmp.Ordering.{Ordering}
use Rattle.reo_net_base.specs.Net.{Net, Side, net_of, all_sides, no_side}
use Rattle.reo_net.proofs.colouring.KeyLemmas.{leading_from, leading_differs, leading_agrees, leading_skips}
use Rattle.reo_net.proofs.colouring.order.order_of_leading.Goals.{then-leads+else-is_ne, else-leads}
use Rattle.reo_net.proofs.colouring.order.order_of_leading.Goals as goal

pub returns-then-is_ne : goal.returns-then-is_ne
returns-then-is_ne g c =
    let net : Net = net_of g.P.Primitive.behaviour c.args.circuit.now in
    let ss : List Side = all_sides net.primitives in
    let whole : Ordering = leading_from c.args.turn ss c.args.a.now c.args.b.now 0 in
    let leads = sym (c.leads.ensures no_side) ∙ c.if-leads.true in
    let ne = rw (c.is_ne.ensures, c.class_order-order.ensures no_side) at c.if-is_ne.true in
    c.class_order-order.ensures no_side ∙ leading_differs c.args.turn ss c.args.a.now c.args.b.now c.loop-side.side no_side whole (omega arith) leads ne c.loop-side.invariant

pub loop-side-preserved : goal.loop-side-preserved
loop-side-preserved g c =
    let net : Net = net_of g.P.Primitive.behaviour c.args.circuit.now in
    let ss : List Side = all_sides net.primitives in
    let whole : Ordering = leading_from c.args.turn ss c.args.a.now c.args.b.now 0 in
    elim c.if-leads.branch [
      | then-leads+else-is_ne w ↦
          let ne = rw (w.is_ne.ensures, w.class_order-order.ensures no_side) at w.if-is_ne.false in
          leading_agrees c.args.turn ss c.args.a.now c.args.b.now c.loop-side.side no_side whole (omega arith) (sym (c.leads.ensures no_side) ∙ w.if-leads.true) ne c.loop-side.invariant
      | else-leads w ↦ leading_skips c.args.turn ss c.args.a.now c.args.b.now c.loop-side.side no_side whole (omega arith) (sym (c.leads.ensures no_side) ∙ w.if-leads.false) c.loop-side.invariant
    ]
