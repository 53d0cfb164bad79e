use Rattle.std.proofs.Common.{◌≡◌, ◌∙◌, true, false, refl, sym}
use Rattle.reo_net_base.specs.Net.{Net, net_of}
use Rattle.reo_refute_live.proofs.support.Reading.{row_in, gives_flow, takes_flow, flow_given, flow_taken}
use Rattle.reo_refute_live.proofs.support.flows.flow_stands.Goals as goal

pub flows_at-requires : goal.flows_at-requires
flows_at-requires g c = row_in (net_of g.P.Primitive.behaviour c.args.asked.now.circuit.now) c.known.ensures.wired c.args.asked.now.side c.args.row c.requires.row c.args.column.now c.requires.column

pub returns-then-not-flows_at : goal.returns-then-not-flows_at
returns-then-not-flows_at g c =
    let net : Net = net_of g.P.Primitive.behaviour c.args.asked.now.circuit.now in (
      λ _. record {
        takes = λ gives flow. let wrong : false ≡ true = sym c.if-not-flows_at.true ∙ c.flows_at.ensures.1 (flow_taken net c.known.ensures.wired c.args.asked.now.side c.args.row c.requires.row c.args.column.now c.requires.column gives flow.flows) in absurd cc;
        gives = λ gives flow none. let wrong : false ≡ true = sym c.if-not-flows_at.true ∙ c.flows_at.ensures.1 (flow_given net c.known.ensures.wired c.args.asked.now.side c.args.row c.requires.row c.args.column.now c.requires.column gives flow.flows) in absurd cc;
      },
      λ _. refl,
    )

pub takes_some-requires-clause-takes : goal.takes_some-requires-clause-takes
takes_some-requires-clause-takes g c =
    takes_flow (net_of g.P.Primitive.behaviour c.args.asked.now.circuit.now) c.known.ensures.wired c.args.asked.now.side c.args.row c.requires.row c.args.column.now c.requires.column c.if-not-column.true (c.flows_at.ensures.0 c.if-not-flows_at.false)

pub returns-then-not-column : goal.returns-then-not-column
returns-then-not-column g c =
    let net : Net = net_of g.P.Primitive.behaviour c.args.asked.now.circuit.now in (
      λ yes. record {
        takes = λ _ _. c.takes_some.ensures.0 yes;
        gives = λ gives flow none. let wrong : false ≡ true = sym c.if-not-column.true ∙ gives in absurd cc;
      },
      λ s. c.takes_some.ensures.1 (s.takes c.if-not-column.true (takes_flow net c.known.ensures.wired c.args.asked.now.side c.args.row c.requires.row c.args.column.now c.requires.column c.if-not-column.true (c.flows_at.ensures.0 c.if-not-flows_at.false))),
    )

pub source_of-requires-clause-at : goal.source_of-requires-clause-at
source_of-requires-clause-at g c =
    (gives_flow (net_of g.P.Primitive.behaviour c.args.asked.now.circuit.now) c.known.ensures.wired c.args.asked.now.side c.args.row c.requires.row c.args.column.now c.requires.column c.if-not-column.false (c.flows_at.ensures.0 c.if-not-flows_at.false)).here

pub source_of-requires-clause-flows : goal.source_of-requires-clause-flows
source_of-requires-clause-flows g c =
    (gives_flow (net_of g.P.Primitive.behaviour c.args.asked.now.circuit.now) c.known.ensures.wired c.args.asked.now.side c.args.row c.requires.row c.args.column.now c.requires.column c.if-not-column.false (c.flows_at.ensures.0 c.if-not-flows_at.false)).flows

pub returns-in-None : goal.returns-in-None
returns-in-None g c =
    let net : Net = net_of g.P.Primitive.behaviour c.args.asked.now.circuit.now in (
      λ yes. record {
        takes = λ gives flow. let wrong : false ≡ true = sym gives ∙ c.if-not-column.false in absurd cc;
        gives = λ _ _ _. c.gives_some.ensures.0 yes;
      },
      λ s. c.gives_some.ensures.1 (s.gives c.if-not-column.false (gives_flow net c.known.ensures.wired c.args.asked.now.side c.args.row c.requires.row c.args.column.now c.requires.column c.if-not-column.false (c.flows_at.ensures.0 c.if-not-flows_at.false)) (sym c.source_of.ensures ∙ c.in-None.is)),
    )
