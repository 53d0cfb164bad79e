use Rattle.std.proofs.Common.{refl, sym, subst, arith}
use Rattle.reo_net_base.specs.Net.{Net, net_of}
use Rattle.reo_refute_base.specs.Items.{Lists}
use Rattle.reo_refute_base.specs.Items.AreVisited.{begun}
use Rattle.reo_refute_parts.specs.lists.Passes.{SoFar}
use Rattle.reo_refute_parts.proofs.lists.PassLemmas.{one_more, stayed, grew, all_passed}
use Rattle.reo_refute_parts.proofs.lists.lists.pass.Goals as goal
use Rattle.reo_refute_parts.proofs.lists.lists.pass.Goals.{in-Items, in-Nothing}

pub loop-joint-init : goal.loop-joint-init
loop-joint-init g c = record { visited = begun c.args.lists.now.items; good = c.requires.lists; so_far = refl }

pub loop-joint-preserved : goal.loop-joint-preserved
loop-joint-preserved g c =
    let net : Net = net_of g.P.Primitive.behaviour c.args.circuit.now in
    let first : Lists = c.args.lists.now.items in
    let old : Lists = c.loop-joint.lists.items in
    let new : Lists = c.visit.new.lists.items in
    elim c.match-branch-2.branch [
      | in-Items w ↦
          let brought = rw w.in-Items.is at c.in_ok-visit.ensures in
          record {
            visited = one_more net c.loop-joint.joint first old new c.loop-joint.invariant.visited brought.0;
            good = brought.1;
            so_far = subst (SoFar first new) (sym w.found-is) (grew first old new c.loop-joint.found c.loop-joint.invariant.so_far brought.2);
          }
      | in-Nothing w ↦
          let brought = rw w.in-Nothing.is at c.in_ok-visit.ensures in
          record {
            visited = one_more net c.loop-joint.joint first old new c.loop-joint.invariant.visited brought.0;
            good = brought.1;
            so_far = subst (SoFar first new) (sym w.found-is) (stayed first old new c.loop-joint.found c.loop-joint.invariant.so_far brought.2);
          }
    ]

pub returns : goal.returns
returns g c =
    let net : Net = net_of g.P.Primitive.behaviour c.args.circuit.now in
    all_passed net c.loop-joint.joint c.args.lists.now.items c.loop-joint.lists.items c.loop-joint.found (omega arith) c.loop-joint.invariant.visited c.loop-joint.invariant.good c.loop-joint.invariant.so_far
