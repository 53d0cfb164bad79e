use Rattle.std.proofs.Common.{subst}
use Rattle.reo_net_base.specs.Net.{Net, net_of, no_side}
use Rattle.reo_net_laws.specs.Ends.{IsRowOf}
use Rattle.reo_walk.specs.declared.place.KeyPlace.{KeyPlace}
use Rattle.reo_walk.specs.Places.{side_of_place}
use Rattle.reo_walk.proofs.place.number_of.Goals as goal

pub class-requires-clause-row : goal.class-requires-clause-row
class-requires-clause-row g c =
    let net : Net = net_of g.P.Primitive.behaviour c.args.circuit.now in
    let here : IsRowOf net c.in-Class.side c.args.row = subst (λ (p : KeyPlace). IsRowOf net (side_of_place p) c.args.row) c.in-Class.is c.requires.row in
    rw (c.primitive.ensures.behaviour) (rw (c.owner-owner.ensures.owner no_side) at (here no_side))
