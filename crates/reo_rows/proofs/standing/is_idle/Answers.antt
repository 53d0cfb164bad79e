use Rattle.std.proofs.lemmas.Bool.{both_ways}
use Rattle.reo_net_base.specs.Net.{Net, net_of}
use Rattle.reo_rows.proofs.Reading.{flow_read}
use Rattle.reo_rows.proofs.Idle.{without_still}
use Rattle.reo_rows.proofs.standing.is_idle.Goals as goal

pub returns-else-flows_nowhere : goal.returns-else-flows_nowhere
returns-else-flows_nowhere g c =
    let net : Net = net_of g.P.Primitive.behaviour c.args.circuit.now in
    let flow = flow_read net c.args.side c.args.board.now c.requires.board c.args.row c.requires.row c.at-flow.result.now c.at-flow.ensures in (
      λ h. absurd (both_ways c.flows_nowhere.result c.if-flows_nowhere.false h),
      λ idle. c.flows_nowhere.ensures.1 (without_still net c.known.ensures.wired c.args.side c.args.row c.at-flow.result.now flow idle.still),
    )
