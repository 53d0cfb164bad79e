use Rattle.std.proofs.Common.{◌≡◌, ◌∙◌, ◌<◌, sym, ℕ, List, length, get_or, refl, arith}
use Rattle.std.proofs.lemmas.List.{length-set}
use Rattle.reo_net_base.specs.Net.{Net, net_of}
use Rattle.reo_net.proofs.colouring.ItemLemmas.{joint_giver, filled_more, filled_all, filled_one}
use Rattle.reo_net_laws.proofs.Orders.{place_in}
use Rattle.reo_net.proofs.colouring.items.items_of.Goals as goal

pub item_for-requires-clause-giver : goal.item_for-requires-clause-giver
item_for-requires-clause-giver g c =
    let net : Net = net_of g.P.Primitive.behaviour c.args.circuit.now in
    let order : List ℕ = c.order-order.result.now in
    let j : ℕ = get_or order c.loop-at.at 0 in
    let j_in : j < length net.joints = place_in net order c.order-order.ensures c.loop-at.at (omega arith) in
    rw (c.joint-joint.ensures c.joint-joint.result) at (joint_giver net c.known.ensures.wired j c.joint-joint.result j_in)

pub loop-at-preserved : goal.loop-at-preserved
loop-at-preserved g c =
    let net : Net = net_of g.P.Primitive.behaviour c.args.circuit.now in
    let order : List ℕ = c.order-order.result.now in
    let j : ℕ = get_or order c.loop-at.at 0 in
    let at_in : c.loop-at.at < length order = omega arith in
    let item = rw (c.deref.ensures.value, ← c.joint-joint.ensures c.joint-joint.result) at c.in_ok-item.ensures in
    record {
      one_each = rw (c.put_item.ensures, length-set c.loop-at.items.items j c.in_ok-item.item) c.loop-at.invariant.one_each;
      filled = rw c.put_item.ensures (filled_more net c.known.ensures.wired c.args.rows.now c.requires.rows order c.order-order.ensures c.loop-at.items.items c.loop-at.invariant.one_each c.loop-at.at j c.joint-joint.result c.in_ok-item.item at_in refl item c.loop-at.invariant.filled);
    }

pub returns-clause-filled : goal.returns-clause-filled
returns-clause-filled g c =
    let net : Net = net_of g.P.Primitive.behaviour c.args.circuit.now in
    let order : List ℕ = c.order-order.result.now in
    let end : c.loop-at.at ≡ length order = omega arith in
    rw c.from_vec.ensures (filled_all net c.known.ensures.wired c.args.rows.now c.requires.rows order c.order-order.ensures c.loop-at.items.items c.loop-at.invariant.one_each (rw end at c.loop-at.invariant.filled))

pub returns-clause-one : goal.returns-clause-one
returns-clause-one g c = λ others filled.
    let net : Net = net_of g.P.Primitive.behaviour c.args.circuit.now in
    let order : List ℕ = c.order-order.result.now in
    let end : c.loop-at.at ≡ length order = omega arith in
    let mine = filled_all net c.known.ensures.wired c.args.rows.now c.requires.rows order c.order-order.ensures c.loop-at.items.items c.loop-at.invariant.one_each (rw end at c.loop-at.invariant.filled) in
    filled_one net c.known.ensures.wired c.args.rows.now c.requires.rows order c.order-order.ensures others c.loop-at.items.items filled mine ∙ sym c.from_vec.ensures
