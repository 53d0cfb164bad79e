use Rattle.reo_net_base.specs.Net.{Net, net_of}
use Rattle.reo_search_tables.proofs.Renewed.{on_ok}
use Rattle.reo_search_tables.proofs.RenewedSides.{sides_right}
use Rattle.reo_search_tables.proofs.renewing.renew_sides.Goals as goal

pub returns-clause-right : goal.returns-clause-right
returns-clause-right g c =
    let net : Net = net_of g.P.Primitive.behaviour c.args.circuit.now in
    on_ok c.renew_notes.result c.renew_notes.ensures.right (λ notes. sides_right net c.args.sides.now _ c.in_ok-renew_boards.ensures.right c.in_ok-renew_live.ensures.right notes)
