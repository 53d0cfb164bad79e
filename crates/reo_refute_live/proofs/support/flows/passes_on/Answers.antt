use Rattle.std.proofs.Common.{◌≡◌, ◌∙◌, ℕ, slice_index_or, true, false, Some, sym, subst, below_more}
use Rattle.reo_net_base.specs.Net.{Net, net_of}
use Rattle.reo_joint_values.specs.Values.{Names, Family}
use Rattle.reo_joint_values.specs.Works.{Follows, IsGivenIn}
use Rattle.reo_refute_base.specs.Items.{numbered}
use Rattle.reo_refute_base.specs.Live.{alone}
use Rattle.reo_refute_live.specs.declared.support.columns.Column.{Column}
use Rattle.reo_refute_live.specs.support.Columns.{IsColumn, no_column}
use Rattle.reo_refute_live.specs.support.Families.{family_of}
use Rattle.reo_refute_live.proofs.support.Reading.{column_is, column_same, row_in, gives_flow, flow_given}
use Rattle.reo_refute_live.proofs.support.flows.passes_on.Goals as goal
use Rattle.reo_refute_live.proofs.support.flows.passes_on.Goals.{else-other-via-then-other+then-flows_at+then-follows+else-not-gives_some, else-other-via-then-other+then-flows_at+else-follows, else-other-via-then-other+else-flows_at, else-other-via-else-other}

pub flows_at-requires : goal.flows_at-requires
flows_at-requires g c =
    let net : Net = net_of g.P.Primitive.behaviour c.args.asked.now.circuit.now in
    let column : Column = c.index-columns-index.result in
    row_in net c.known.ensures.wired c.args.asked.now.side c.args.row c.requires.row column (column_is net c.args.asked.now.side c.args.asked.now.columns.now c.requires.ready.columns_are c.loop-index.index column c.loop-index-test.true c.index-columns-index.is)

pub follows-requires-clause-gives : goal.follows-requires-clause-gives
follows-requires-clause-gives g c =
    let net : Net = net_of g.P.Primitive.behaviour c.args.asked.now.circuit.now in
    let column : Column = c.index-columns-index.result in
    gives_flow net c.known.ensures.wired c.args.asked.now.side c.args.row c.requires.row column (column_is net c.args.asked.now.side c.args.asked.now.columns.now c.requires.ready.columns_are c.loop-index.index column c.loop-index-test.true c.index-columns-index.is)
    c.if-other.true (c.flows_at.ensures.0 c.if-flows_at.true)

pub loop-index-preserved : goal.loop-index-preserved
loop-index-preserved g c =
    let net : Net = net_of g.P.Primitive.behaviour c.args.asked.now.circuit.now in
    let names : Names = numbered c.args.asked.now.lists.now in
    let family : Family = alone (family_of c.args.asked.now.live.now) c.args.asked.now.held c.args.asked.now.value in
    let column : Column = c.index-columns-index.result in
    let is : IsColumn net c.args.asked.now.side column = column_is net c.args.asked.now.side c.args.asked.now.columns.now c.requires.ready.columns_are c.loop-index.index column c.loop-index-test.true c.index-columns-index.is in
    below_more (λ (m : ℕ). (slice_index_or c.args.asked.now.columns.now m no_column).gives ≡ true → Follows net c.args.row (slice_index_or c.args.asked.now.columns.now m no_column).joint c.args.joint
    → IsGivenIn net names family c.args.row (slice_index_or c.args.asked.now.columns.now m no_column).joint (Some c.args.item.now))
    c.loop-index.index c.loop-index.invariant
    (subst (λ (x : Column). x.gives ≡ true → Follows net c.args.row x.joint c.args.joint → IsGivenIn net names family c.args.row x.joint (Some c.args.item.now)) (column_same c.args.asked.now.columns.now c.loop-index.index column c.loop-index-test.true c.index-columns-index.is)
    (λ gives follows. elim c.else-other.branch [
      | else-other-via-then-other+then-flows_at+then-follows+else-not-gives_some w ↦ w.gives_some.ensures.0 w.if-not-gives_some.false
      | else-other-via-then-other+then-flows_at+else-follows w ↦ let wrong : false ≡ true = sym w.if-follows.false ∙ w.follows.ensures.1 follows in absurd cc
      | else-other-via-then-other+else-flows_at w ↦
          let wrong : false ≡ true = sym w.if-flows_at.false ∙ w.flows_at.ensures.1 (flow_given net c.known.ensures.wired c.args.asked.now.side c.args.row c.requires.row column is gives follows.flows) in absurd cc
      | else-other-via-else-other w ↦ let wrong : false ≡ true = sym w.if-other.false ∙ gives in absurd cc
    ]))
