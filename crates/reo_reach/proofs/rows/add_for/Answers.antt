use Rattle.std.proofs.Common.{◌≡◌, ◌∙◌, List, sym, ap}
use Rattle.std.proofs.lemmas.Result.{on_ok_weaker}
use Rattle.std.specs.Prelude.{length, nat_lt, true}
use Rattle.reo_values.specs.declared.value.Value.{Value}
use Rattle.reo_net_base.specs.Net.{Net, net_of, end_of}
use Rattle.reo_joint_values.specs.Standing.{IsGivenFor}
use Rattle.reo_reach.proofs.AddedLemmas.{added_full}
use Rattle.reo_joint_values.proofs.Sources.{flows_by, source_is, source_takes}
use Rattle.reo_reach.proofs.RowLemmas.{some_for, added_not, added_for}
use Rattle.reo_reach.proofs.rows.add_for.Goals as goal

pub passes-requires-clause-end : goal.passes-requires-clause-end
passes-requires-clause-end g c =
    let net : Net = net_of g.P.Primitive.behaviour c.args.giving.now.circuit.now in
    rw (c.side_of-side.ensures, c.primitive-primitive.ensures.behaviour) (source_is net c.known.ensures.wired c.args.giving.now.giver c.requires.giving.giver c.args.giving.now.row c.requires.flows c.args.from c.requires.decides)

pub passes-requires-clause-takes : goal.passes-requires-clause-takes
passes-requires-clause-takes g c =
    let net : Net = net_of g.P.Primitive.behaviour c.args.giving.now.circuit.now in
    rw c.primitive-primitive.ensures.behaviour (source_takes net c.known.ensures.wired c.args.giving.now.giver c.requires.giving.giver c.args.giving.now.row c.requires.flows c.args.from c.requires.decides)

pub returns-then-is_full : goal.returns-then-is_full
returns-then-is_full g c =
    let net : Net = net_of g.P.Primitive.behaviour c.args.giving.now.circuit.now in
    let full : nat_lt 256 (length c.args.items.now) ≡ true = ap (λ (xs : List Value). nat_lt 256 (length xs)) (sym c.as_slice.ensures) ∙ sym c.is_full.ensures ∙ c.if-is_full.true in
    added_full c.args.items.now (IsGivenFor net c.args.giving.now.giver c.args.giving.now.row (end_of c.args.giving.now.giver.primitive c.args.from) c.args.taken.now) full

pub returns-then-not-passes : goal.returns-then-not-passes
returns-then-not-passes g c =
    let net : Net = net_of g.P.Primitive.behaviour c.args.giving.now.circuit.now in
    let fails = rw (c.passes.ensures, c.side_of-side.ensures, c.primitive-primitive.ensures.behaviour) at c.if-not-passes.true in
    added_not net c.known.ensures.wired c.args.giving.now.giver c.requires.giving.giver c.args.giving.now.row c.requires.flows c.args.from c.requires.decides c.args.taken.now fails c.args.items.now

pub gives-requires-clause-flows : goal.gives-requires-clause-flows
gives-requires-clause-flows g c =
    let net : Net = net_of g.P.Primitive.behaviour c.args.giving.now.circuit.now in
    rw (c.side_of-side.ensures, c.primitive-primitive.ensures.behaviour) (flows_by net c.known.ensures.wired c.args.giving.now.giver c.requires.giving.giver c.args.giving.now.row c.requires.flows)

pub gives-requires-clause-given : goal.gives-requires-clause-given
gives-requires-clause-given g c =
    let net : Net = net_of g.P.Primitive.behaviour c.args.giving.now.circuit.now in
    rw (c.side_of-side.ensures, c.primitive-primitive.ensures.behaviour) (some_for net c.known.ensures.wired c.args.giving.now.giver c.requires.giving.giver c.args.giving.now.row c.requires.flows c.args.from c.requires.decides c.args.taken.now)

pub returns : goal.returns
returns g c =
    let net : Net = net_of g.P.Primitive.behaviour c.args.giving.now.circuit.now in
    let passes = rw (c.passes.ensures, c.side_of-side.ensures, c.primitive-primitive.ensures.behaviour) at c.if-not-passes.false in
    let given = rw (c.side_of-side.ensures, c.primitive-primitive.ensures.behaviour) at c.in_ok-item.ensures in
    on_ok_weaker c.add.result
    (added_for net c.known.ensures.wired c.args.giving.now.giver c.requires.giving.giver c.args.giving.now.row c.requires.flows c.args.from c.requires.decides c.args.taken.now passes c.in_ok-item.item given c.args.items.now c.add.new.items)
    c.add.ensures
