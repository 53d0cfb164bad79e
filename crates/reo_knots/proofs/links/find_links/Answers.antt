use Rattle.std.proofs.Common.{refl, arith}
use Rattle.reo_net_base.specs.Net.{Net, net_of}
use Rattle.reo_net_laws.proofs.KnotLinks.{own_labels, more_loops}
use Rattle.reo_knots.proofs.links.find_links.Goals as goal

pub loop-index-init : goal.loop-index-init
loop-index-init g c =
    let net : Net = net_of g.P.Primitive.behaviour c.args.circuit.now in
    record {
      members = c.in_ok-all.ensures.members;
      labels = own_labels net c.in_ok-all.all.labels.items (rw c.sides.ensures at c.in_ok-all.ensures.labels);
      loops = rw c.new-loops.ensures (record { one_each = refl; exact = λ j lt. absurd (omega arith) });
    }

pub loop-index-preserved : goal.loop-index-preserved
loop-index-preserved g c =
    let net : Net = net_of g.P.Primitive.behaviour c.args.circuit.now in
    record {
      members = c.in_ok-closes.ensures.members;
      labels = c.in_ok-closes.ensures.labels;
      loops = rw c.in_ok-push.ensures.ok (more_loops net c.loop-index.index c.loop-index.loops c.in_ok-closes.closes c.loop-index.invariant.loops c.in_ok-closes.ensures.closes);
    }
