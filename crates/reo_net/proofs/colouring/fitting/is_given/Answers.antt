use Rattle.std.proofs.Common.{sym}
use Rattle.reo_net_base.specs.Net.{Net, net_of, mark_at}
use Rattle.reo_net.proofs.colouring.ItemLemmas.{given_none, given_some}
use Rattle.reo_net.proofs.colouring.fitting.is_given.Goals as goal

pub from-requires-clause-flows : goal.from-requires-clause-flows
unfolding mark_at
from-requires-clause-flows g c = rw (c.side_of-side.ensures, c.primitive-primitive.ensures.behaviour, c.row_at-row.ensures.row) c.requires.flows

pub agrees-requires-clause-flows : goal.agrees-requires-clause-flows
unfolding mark_at
agrees-requires-clause-flows g c = rw (c.side_of-side.ensures, c.primitive-primitive.ensures.behaviour, c.row_at-row.ensures.row) c.requires.flows

pub agrees-requires-in-Some-clause-flows : goal.agrees-requires-in-Some-clause-flows
unfolding mark_at
agrees-requires-in-Some-clause-flows g c = rw (c.side_of-side.ensures, c.primitive-primitive.ensures.behaviour, c.row_at-row.ensures.row) c.requires.flows

pub returns-in-None : goal.returns-in-None
returns-in-None g c =
    let net : Net = net_of g.P.Primitive.behaviour c.args.circuit.now in
    let none = rw (c.side_of-side.ensures, c.primitive-primitive.ensures.behaviour, c.row_at-row.ensures.row) at c.in-None.ensures in
    rw (given_none net c.args.rows.now c.args.items.now c.args.giver (sym none)) (rw (c.side_of-side.ensures, c.primitive-primitive.ensures.behaviour, c.row_at-row.ensures.row) at c.agrees.ensures)

pub returns-in-Some : goal.returns-in-Some
returns-in-Some g c =
    let net : Net = net_of g.P.Primitive.behaviour c.args.circuit.now in
    let some = rw (c.side_of-side.ensures, c.primitive-primitive.ensures.behaviour, c.row_at-row.ensures.row) at c.in-Some.ensures in
    let decides = rw c.joints.ensures at c.taken-decides.ensures in
    rw (given_some net c.args.rows.now c.args.items.now c.args.giver c.in-Some.from (sym some), ← decides) (rw (c.side_of-side.ensures, c.primitive-primitive.ensures.behaviour, c.row_at-row.ensures.row) at c.agrees-in-Some.ensures)
