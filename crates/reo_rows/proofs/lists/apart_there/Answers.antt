use Rattle.std.proofs.Common.{◌<◌, ℕ, List, length, sym, subst, arith}
use Rattle.reo_net_base.specs.declared.joint.End.{End}
use Rattle.reo_net_base.specs.Net.{Net, net_of, no_side}
use Rattle.reo_side_tables.specs.Listing.{Lists}
use Rattle.reo_side_tables.specs.Marks.{end_at, IsApartAt}
use Rattle.reo_rows.proofs.Reading.{board_is, end_read, apart_read}
use Rattle.reo_rows.proofs.lists.apart_there.Goals as goal

pub at-requires-2 : goal.at-requires-2
at-requires-2 g c =
    let net : Net = net_of g.P.Primitive.behaviour c.args.circuit.now in
    let board = board_is net c.args.boards.now c.requires.boards c.args.side c.requires.side c.at.result.now c.at.ensures in
    omega (arith, (end_read net c.known.ensures.wired c.args.side c.args.joint c.requires.joint c.end_at-end.result c.end_at-end.ensures no_side).0, board.ends)

pub returns : goal.returns
returns g c =
    let net : Net = net_of g.P.Primitive.behaviour c.args.circuit.now in
    let board = board_is net c.args.boards.now c.requires.boards c.args.side c.requires.side c.at.result.now c.at.ensures in
    let lt : c.end_at-end.result.end < length c.at.result.now.apart = omega (arith, (end_read net c.known.ensures.wired c.args.side c.args.joint c.requires.joint c.end_at-end.result c.end_at-end.ensures no_side).0, board.ends) in
    let listed = apart_read net c.args.side c.at.result.now board c.end_at-end.result.end lt c.at-2.result.now c.at-2.ensures in
    let found : Lists (IsApartAt net c.args.side (end_at net c.args.side c.args.joint).end) c.at-2.result.now = subst (λ (e : End). Lists (IsApartAt net c.args.side e.end) c.at-2.result.now) c.end_at-end.ensures listed in
    subst (λ (l : List ℕ). Lists (IsApartAt net c.args.side (end_at net c.args.side c.args.joint).end) l) (sym c.as_slice.ensures) found
