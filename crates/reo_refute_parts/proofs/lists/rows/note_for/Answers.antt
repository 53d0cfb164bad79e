use Rattle.std.proofs.lemmas.Result.{on_ok_weaker}
use Rattle.reo_net_base.specs.Net.{Net, net_of}
use Rattle.reo_refute_parts.proofs.lists.RowLemmas.{flows_by, source_is, source_takes, some_for, noted_not, noted_for}
use Rattle.reo_refute_parts.proofs.lists.rows.note_for.Goals as goal

pub passes-requires-clause-end : goal.passes-requires-clause-end
passes-requires-clause-end g c =
    let net : Net = net_of g.P.Primitive.behaviour c.args.giving.now.circuit.now in
    rw (c.side_of-side.ensures, c.primitive-primitive.ensures.behaviour) (source_is net c.known.ensures.wired c.args.giving.now.giver c.requires.giver c.args.giving.now.row c.requires.flows c.args.from c.requires.decides)

pub passes-requires-clause-takes : goal.passes-requires-clause-takes
passes-requires-clause-takes g c =
    let net : Net = net_of g.P.Primitive.behaviour c.args.giving.now.circuit.now in
    rw c.primitive-primitive.ensures.behaviour (source_takes net c.known.ensures.wired c.args.giving.now.giver c.requires.giver c.args.giving.now.row c.requires.flows c.args.from c.requires.decides)

pub returns-then-not-passes : goal.returns-then-not-passes
returns-then-not-passes g c =
    let net : Net = net_of g.P.Primitive.behaviour c.args.giving.now.circuit.now in
    let fails = rw (c.passes.ensures, c.side_of-side.ensures, c.primitive-primitive.ensures.behaviour) at c.if-not-passes.true in
    noted_not net c.known.ensures.wired c.args.giving.now.giver c.requires.giver c.args.giving.now.row c.requires.flows c.args.from c.requires.decides c.args.taken.now fails c.args.old.now c.args.new.now

pub gives-requires-clause-flows : goal.gives-requires-clause-flows
gives-requires-clause-flows g c =
    let net : Net = net_of g.P.Primitive.behaviour c.args.giving.now.circuit.now in
    rw (c.side_of-side.ensures, c.primitive-primitive.ensures.behaviour) (flows_by net c.known.ensures.wired c.args.giving.now.giver c.requires.giver c.args.giving.now.row c.requires.flows)

pub gives-requires-clause-given : goal.gives-requires-clause-given
gives-requires-clause-given g c =
    let net : Net = net_of g.P.Primitive.behaviour c.args.giving.now.circuit.now in
    rw (c.side_of-side.ensures, c.primitive-primitive.ensures.behaviour) (some_for net c.known.ensures.wired c.args.giving.now.giver c.requires.giver c.args.giving.now.row c.requires.flows c.args.from c.requires.decides c.args.taken.now)

pub returns : goal.returns
returns g c =
    let net : Net = net_of g.P.Primitive.behaviour c.args.giving.now.circuit.now in
    let passes = rw (c.passes.ensures, c.side_of-side.ensures, c.primitive-primitive.ensures.behaviour) at c.if-not-passes.false in
    let given = rw (c.side_of-side.ensures, c.primitive-primitive.ensures.behaviour) at c.in_ok-item.ensures in
    on_ok_weaker c.note.result
    (noted_for net c.known.ensures.wired c.args.giving.now.giver c.requires.giver c.args.giving.now.row c.requires.flows c.args.from c.requires.decides c.args.taken.now passes c.in_ok-item.item given c.args.old.now c.args.new.now c.note.new.new)
    c.note.ensures
