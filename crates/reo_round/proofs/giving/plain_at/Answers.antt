use Rattle.std.proofs.Common.{◌≡◌, ◌∙◌, ℕ, ap, sym}
use Rattle.std.specs.Prelude.{Some}
use Rattle.reo_net_base.specs.Behaviour.{Behaviour}
use Rattle.reo_net_base.specs.Colouring.{taken_at}
use Rattle.reo_net_base.specs.Net.{Net, net_of, behaviour_at, end_of, row_at, mark_at}
use Rattle.reo_net_laws.proofs.Sides.{gives_at}
use Rattle.reo_net.proofs.colouring.ItemLemmas.{given_some}
use Rattle.reo_round.proofs.giving.plain_at.Goals as goal

pub from-requires-clause-flows : goal.from-requires-clause-flows
unfolding mark_at
from-requires-clause-flows g c = rw (c.side_of-side.ensures, c.primitive-primitive.ensures.behaviour, c.row_at-row.ensures.row) c.requires.flows

pub taken_at-requires-clause-end : goal.taken_at-requires-clause-end
taken_at-requires-clause-end g c =
    let net : Net = net_of g.P.Primitive.behaviour c.args.circuit.now in
    let b : Behaviour = behaviour_at net.primitives c.args.giver.primitive in
    let lawful = c.known.ensures.wired.lawful c.args.giver.primitive c.requires.giver.is_end.0 in
    let in_table = rw c.row_at-row.ensures.row at c.row_at-row.ensures.in_table in
    let gives = gives_at net c.known.ensures.wired c.args.giver c.requires.giver.is_end c.args.rows.now c.requires.giver.gives in_table c.requires.flows in
    let some = rw (c.side_of-side.ensures, c.primitive-primitive.ensures.behaviour, c.row_at-row.ensures.row) at c.in-Some.ensures in
    let side : ℕ = b.side_of c.args.giver.end in
    let row : ℕ = row_at net c.args.rows.now c.args.giver in
    record {
      is_end = (c.requires.giver.is_end.0, (lawful.from_end side row c.args.giver.end c.in-Some.from gives (sym some)).0);
      takes = lawful.from_takes side row c.args.giver.end c.in-Some.from gives (sym some);
    }

pub returns-in-Some : goal.returns-in-Some
returns-in-Some g c = λ item is.
    let net : Net = net_of g.P.Primitive.behaviour c.args.circuit.now in
    let b : Behaviour = behaviour_at net.primitives c.args.giver.primitive in
    let side : ℕ = b.side_of c.args.giver.end in
    let row : ℕ = row_at net c.args.rows.now c.args.giver in
    let in_table = rw c.row_at-row.ensures.row at c.row_at-row.ensures.in_table in
    let gives = gives_at net c.known.ensures.wired c.args.giver c.requires.giver.is_end c.args.rows.now c.requires.giver.gives in_table c.requires.flows in
    let some = rw (c.side_of-side.ensures, c.primitive-primitive.ensures.behaviour, c.row_at-row.ensures.row) at c.in-Some.ensures in
    let found = c.carried.ensures item is in
    let taken : taken_at net.joints c.args.items.now (end_of c.args.giver.primitive c.in-Some.from) ≡ Some item = sym c.taken_at.ensures ∙ found.1 in
    let law = rw c.primitive-primitive.ensures.behaviour at (g.met.P.Primitive.carries_on c.primitive-primitive.result.now) in
    given_some net c.args.rows.now c.args.items.now c.args.giver c.in-Some.from (sym some)
    ∙ ap (b.given side row c.args.giver.end) taken
    ∙ law side row c.args.giver.end c.in-Some.from item found.0 gives (sym some)
