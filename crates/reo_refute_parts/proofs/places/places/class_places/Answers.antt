use Rattle.std.proofs.Common.{List, ◌+◌, sym, subst, arith}
use Rattle.reo_net_base.specs.Net.{Net, net_of}
use Rattle.reo_refute_parts.specs.declared.places.place.SidePlace.{SidePlace}
use Rattle.reo_refute_parts.proofs.places.PlaceLemmas.{ClassesFrom, class_added}
use Rattle.reo_refute_parts.proofs.places.places.class_places.Goals as goal

pub loop-side-preserved : goal.loop-side-preserved
loop-side-preserved g c =
    let net : Net = net_of g.P.Primitive.behaviour c.args.circuit.now in
    subst (λ (l : List SidePlace). ClassesFrom net l (c.loop-side.side + 1)) (sym c.in_ok-push.ensures.ok)
    (class_added net c.loop-side.places c.loop-side.side (omega arith) c.loop-side.invariant)
