use Rattle.reo_net_base.specs.Net.{Net, net_of}
use Rattle.reo_trace.specs.Entries.{entry_at}
use Rattle.reo_trace.proofs.Places.{made-more}
use Rattle.reo_trace.proofs.entries.entries_of.Goals as goal

pub loop-index-preserved : goal.loop-index-preserved
loop-index-preserved g c =
    let net : Net = net_of g.P.Primitive.behaviour c.args.circuit.now in
    made-more (entry_at net c.args.rows.now) c.loop-index.index c.loop-index.entries c.push.new.self c.entry_at.result c.loop-index.invariant c.entry_at.ensures c.in_ok-push.ensures.ok
