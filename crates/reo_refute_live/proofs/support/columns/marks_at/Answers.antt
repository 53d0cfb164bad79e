use Rattle.std.proofs.Common.{◌≡◌, ◌∙◌, ℕ, ap}
use Rattle.reo_net_base.specs.Net.{Net, net_of}
use Rattle.reo_net_laws.specs.Ends.{mark_in}
use Rattle.reo_side_tables.specs.Marks.{byte_of}
use Rattle.reo_refute_live.proofs.support.Reading.{mark_is, byte_more, byte_length}
use Rattle.reo_refute_live.proofs.support.columns.marks_at.Goals as goal

pub loop-row-preserved : goal.loop-row-preserved
loop-row-preserved g c =
    let net : Net = net_of g.P.Primitive.behaviour c.args.circuit.now in
    let byte : c.byte_of.result ≡ byte_of (mark_in net c.loop-row.row c.args.end) =
    c.byte_of.ensures ∙ ap byte_of (c.mark.ensures ∙ mark_is net c.args.end c.loop-row.row (g.P.Primitive.behaviour c.primitive-primitive.result.now) c.side_of-side.result c.primitive-primitive.ensures.behaviour c.side_of-side.ensures) in
    record {
      one_each = byte_length c.loop-row.row c.loop-row.marks c.push.new.self c.byte_of.result c.in_ok-push.ensures.ok c.loop-row.invariant.one_each;
      exact = byte_more (λ (k : ℕ). byte_of (mark_in net k c.args.end)) c.loop-row.row c.loop-row.marks c.push.new.self c.byte_of.result c.in_ok-push.ensures.ok c.loop-row.invariant.one_each c.loop-row.invariant.exact byte;
    }
