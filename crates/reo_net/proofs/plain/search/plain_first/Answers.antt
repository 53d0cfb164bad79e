use Rattle.std.proofs.lemmas.Result.{IfOk-weaker}
use Rattle.reo_net_base.specs.Net.{Net, net_of}
use Rattle.reo_net_base.specs.Sides.{side_count}
use Rattle.reo_net_base.specs.First.{IsFirst}
use Rattle.reo_net.proofs.plain.ChosenLemmas.{none_differs}
use Rattle.reo_net.proofs.plain.search.plain_first.Goals as goal

pub returns : goal.returns
returns g c =
    let net : Net = net_of g.P.Primitive.behaviour c.args.circuit.now in
    let best = rw (c.deref_mut.ensures.value, c.in_ok-chosen.ensures) at c.best_from.ensures.best in
    IfOk-weaker c.best_from.result _ (λ found. IsFirst net c.args.turn found.rows found.items)
    (λ found better. record { colouring = better.colouring; least = λ others items col. better.not_after_tried others items col (none_differs (side_count net) _ others) }) best
