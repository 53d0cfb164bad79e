use Rattle.std.proofs.Common.{ℕ, List, ◌∙◌}
use Rattle.std.proofs.lemmas.List.{get_or_default}
use Rattle.reo_net_base.specs.Net.{Net, net_of}
use Rattle.reo_net_laws.proofs.Orders.{place_of}
use Rattle.reo_joint_values.proofs.InOrder.{order_in_order}
use Rattle.reo_reach.proofs.visits.reach.Goals as goal

pub reach_at-requires-clause-joints : goal.reach_at-requires-clause-joints
reach_at-requires-clause-joints g c =
    let net : Net = net_of g.P.Primitive.behaviour c.args.circuit.now in
    order_in_order net c.known.ensures.wired c.order.result.now c.order.ensures

pub reach_at-requires-clause-supply : goal.reach_at-requires-clause-supply
reach_at-requires-clause-supply g c = record {
  one_list = c.in_ok-supply.ensures.lists ∙ c.joint_count.ensures;
  one_mark = c.in_ok-supply.ensures.marks ∙ c.joint_count.ensures;
}

pub returns-clause-supply : goal.returns-clause-supply
returns-clause-supply g c =
    let net : Net = net_of g.P.Primitive.behaviour c.args.circuit.now in
    let order : List ℕ = c.order.result.now in
    record {
      places = c.reach_at.ensures.places;
      reached = λ j lt.
          let place = place_of net order c.order.ensures j lt in
          c.in_ok-reach_at.ensures.reached j (place.0, place.1, get_or_default order place.0 j 0 place.1 ∙ place.2);
    }
