use Rattle.reo_net_base.specs.Net.{Net, net_of}
use Rattle.reo_net_base.specs.First.{order_of}
use Rattle.reo_net.proofs.plain.ChosenLemmas.{before_trans, not_before_itself, less_from_is_lt, not_less_from_is_lt, improves_whole}
use Rattle.reo_net.proofs.plain.search.improved.Goals as goal

pub returns-then-is_lt : goal.returns-then-is_lt
returns-then-is_lt g c =
    let net : Net = net_of g.P.Primitive.behaviour c.args.circuit.now in
    let order = rw (c.as_slice-tried.ensures, c.as_slice-kept.ensures) at c.compare.ensures in
    let less = less_from_is_lt (order_of net c.args.turn c.args.rows.now c.args.best.rows) (rw (c.is_lt.ensures, order) at c.if-is_lt.true) in
    let colouring = rw (c.in-Some.is, c.as_slice-tried.ensures) at c.in_ok-items.ensures in
    rw c.in_ok-rows-in-Some.ensures (improves_whole net c.args.turn c.args.rows.now c.args.best.rows c.args.rows.now c.in-Some.items colouring
    (λ others not_before before. not_before (before_trans net c.args.turn others c.args.rows.now c.args.best.rows before less))
    (λ items col. not_before_itself net c.args.turn c.args.rows.now))

pub returns-else-is_lt : goal.returns-else-is_lt
returns-else-is_lt g c =
    let net : Net = net_of g.P.Primitive.behaviour c.args.circuit.now in
    let order = rw (c.as_slice-tried.ensures, c.as_slice-kept.ensures) at c.compare.ensures in
    let not_less = not_less_from_is_lt (order_of net c.args.turn c.args.rows.now c.args.best.rows) (rw (c.is_lt.ensures, order) at c.if-is_lt.false) in
    improves_whole net c.args.turn c.args.rows.now c.args.best.rows c.args.best.rows c.args.best.items c.requires.best
    (λ others not_before. not_before) (λ items col. not_less)

pub returns-in-None : goal.returns-in-None
returns-in-None g c =
    let net : Net = net_of g.P.Primitive.behaviour c.args.circuit.now in
    let none = rw (c.in-None.is, c.as_slice-tried.ensures) at c.in_ok-items.ensures in
    improves_whole net c.args.turn c.args.rows.now c.args.best.rows c.args.best.rows c.args.best.items c.requires.best
    (λ others not_before. not_before) (λ items col. absurd (none items col))
