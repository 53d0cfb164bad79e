use Rattle.reo_net_base.specs.Net.{net_of}
use Rattle.reo_rows.proofs.Reading.{end_read}
use Rattle.reo_rows.proofs.standing.groups_have.Goals as goal

pub common-requires-clause-end : goal.common-requires-clause-end
common-requires-clause-end g c = end_read (net_of g.P.Primitive.behaviour c.args.resting.now.circuit.now) c.known.ensures.wired c.args.resting.now.side c.args.resting.now.joint c.requires.resting.joint c.end_at-end.result c.end_at-end.ensures
