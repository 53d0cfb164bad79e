use Rattle.std.proofs.Common.{◌∙◌, ℕ, sym}
use Rattle.reo_net_base.specs.Behaviour.{Behaviour}
use Rattle.reo_net_base.specs.Net.{Net, net_of, behaviour_at, row_at, mark_at}
use Rattle.reo_net.proofs.Sides.{gives_at}
use Rattle.reo_net.proofs.colouring.ItemLemmas.{given_none, given_some}
use Rattle.reo_net.proofs.colouring.items.given_for.Goals as goal

pub from-requires-clause-flows : goal.from-requires-clause-flows
unfolding mark_at
from-requires-clause-flows g c = rw (c.side_of-side.ensures, c.primitive-primitive.ensures.behaviour, c.row_at-row.ensures.row) c.requires.flows

pub gives-requires-clause-flows : goal.gives-requires-clause-flows
unfolding mark_at
gives-requires-clause-flows g c = rw (c.side_of-side.ensures, c.primitive-primitive.ensures.behaviour, c.row_at-row.ensures.row) c.requires.flows

pub gives-requires-in-Some-taken_by-clause-flows : goal.gives-requires-in-Some-taken_by-clause-flows
unfolding mark_at
gives-requires-in-Some-taken_by-clause-flows g c = rw (c.side_of-side.ensures, c.primitive-primitive.ensures.behaviour, c.row_at-row.ensures.row) c.requires.flows

pub gives-requires-clause-given : goal.gives-requires-clause-given
gives-requires-clause-given g c =
    let net : Net = net_of g.P.Primitive.behaviour c.args.circuit.now in
    let b : Behaviour = behaviour_at net.primitives c.args.giver.primitive in
    let lawful = c.known.ensures.wired.lawful c.args.giver.primitive c.requires.giver.is_end.0 in
    let in_table = rw c.row_at-row.ensures.row at c.row_at-row.ensures.in_table in
    let gives = gives_at net c.known.ensures.wired c.args.giver c.requires.giver.is_end c.args.rows.now c.requires.giver.gives in_table c.requires.flows in
    let none = rw (c.side_of-side.ensures, c.primitive-primitive.ensures.behaviour, c.row_at-row.ensures.row) at c.in-None.ensures in
    rw (c.side_of-side.ensures, c.primitive-primitive.ensures.behaviour, c.row_at-row.ensures.row)
    (lawful.given_alone (b.side_of c.args.giver.end) (row_at net c.args.rows.now c.args.giver) c.args.giver.end gives (sym none))

pub gives-requires-in-Some-taken_by-clause-given : goal.gives-requires-in-Some-taken_by-clause-given
gives-requires-in-Some-taken_by-clause-given g c =
    let net : Net = net_of g.P.Primitive.behaviour c.args.circuit.now in
    let b : Behaviour = behaviour_at net.primitives c.args.giver.primitive in
    let lawful = c.known.ensures.wired.lawful c.args.giver.primitive c.requires.giver.is_end.0 in
    let in_table = rw c.row_at-row.ensures.row at c.row_at-row.ensures.in_table in
    let gives = gives_at net c.known.ensures.wired c.args.giver c.requires.giver.is_end c.args.rows.now c.requires.giver.gives in_table c.requires.flows in
    let some = rw (c.side_of-side.ensures, c.primitive-primitive.ensures.behaviour, c.row_at-row.ensures.row) at c.in-Some.ensures in
    rw (c.side_of-side.ensures, c.primitive-primitive.ensures.behaviour, c.row_at-row.ensures.row)
    (lawful.given_for (b.side_of c.args.giver.end) (row_at net c.args.rows.now c.args.giver) c.args.giver.end c.in-Some.from c.in-Some-taken_by.item.now gives (sym some))

pub taken_by-requires-clause-end : goal.taken_by-requires-clause-end
taken_by-requires-clause-end g c =
    let net : Net = net_of g.P.Primitive.behaviour c.args.circuit.now in
    let b : Behaviour = behaviour_at net.primitives c.args.giver.primitive in
    let lawful = c.known.ensures.wired.lawful c.args.giver.primitive c.requires.giver.is_end.0 in
    let in_table = rw c.row_at-row.ensures.row at c.row_at-row.ensures.in_table in
    let gives = gives_at net c.known.ensures.wired c.args.giver c.requires.giver.is_end c.args.rows.now c.requires.giver.gives in_table c.requires.flows in
    let some = rw (c.side_of-side.ensures, c.primitive-primitive.ensures.behaviour, c.row_at-row.ensures.row) at c.in-Some.ensures in
    let side : ℕ = b.side_of c.args.giver.end in
    let row : ℕ = row_at net c.args.rows.now c.args.giver in
    record {
      is_end = (c.requires.giver.is_end.0, (lawful.from_end side row c.args.giver.end c.in-Some.from gives (sym some)).0);
      takes = lawful.from_takes side row c.args.giver.end c.in-Some.from gives (sym some);
    }

pub returns-in_ok-item-in-None : goal.returns-in_ok-item-in-None
returns-in_ok-item-in-None g c =
    let net : Net = net_of g.P.Primitive.behaviour c.args.circuit.now in
    let none = rw (c.side_of-side.ensures, c.primitive-primitive.ensures.behaviour, c.row_at-row.ensures.row) at c.in-None.ensures in
    let given = rw (c.side_of-side.ensures, c.primitive-primitive.ensures.behaviour, c.row_at-row.ensures.row) at c.in_ok-item-in-None.ensures in
    sym given ∙ sym (given_none net c.args.rows.now c.args.items.now c.args.giver (sym none))

pub returns-in-None-taken_by : goal.returns-in-None-taken_by
returns-in-None-taken_by g c =
    let net : Net = net_of g.P.Primitive.behaviour c.args.circuit.now in
    let b : Behaviour = behaviour_at net.primitives c.args.giver.primitive in
    let lawful = c.known.ensures.wired.lawful c.args.giver.primitive c.requires.giver.is_end.0 in
    let in_table = rw c.row_at-row.ensures.row at c.row_at-row.ensures.in_table in
    let gives = gives_at net c.known.ensures.wired c.args.giver c.requires.giver.is_end c.args.rows.now c.requires.giver.gives in_table c.requires.flows in
    let some = rw (c.side_of-side.ensures, c.primitive-primitive.ensures.behaviour, c.row_at-row.ensures.row) at c.in-Some.ensures in
    let nothing = lawful.given_for_none (b.side_of c.args.giver.end) (row_at net c.args.rows.now c.args.giver) c.args.giver.end c.in-Some.from gives (sym some) in
    let found = c.in-None-taken_by.ensures in
    let given = rw (← found) at (given_some net c.args.rows.now c.args.items.now c.args.giver c.in-Some.from (sym some)) in
    sym (given ∙ nothing)

pub returns-in_ok-item-in-Some-taken_by : goal.returns-in_ok-item-in-Some-taken_by
returns-in_ok-item-in-Some-taken_by g c =
    let net : Net = net_of g.P.Primitive.behaviour c.args.circuit.now in
    let some = rw (c.side_of-side.ensures, c.primitive-primitive.ensures.behaviour, c.row_at-row.ensures.row) at c.in-Some.ensures in
    let given = rw (c.side_of-side.ensures, c.primitive-primitive.ensures.behaviour, c.row_at-row.ensures.row) at c.in_ok-item-in-Some-taken_by.ensures in
    let found = c.in-Some-taken_by.ensures in
    let whole = rw (← found) at (given_some net c.args.rows.now c.args.items.now c.args.giver c.in-Some.from (sym some)) in
    sym given ∙ sym whole
