use Rattle.std.proofs.Common.{ℕ, List, length, ap, arith}
use Rattle.reo_net_base.specs.Net.{Net, net_of}
use Rattle.reo_mark_search.proofs.Parts.{side_below}
use Rattle.reo_speed.proofs.marks.colour_by_marks.Goals as goal

pub told_rows-requires : goal.told_rows-requires
told_rows-requires g c = λ m lt.
    let net : Net = net_of g.P.Primitive.behaviour c.args.circuit.now in
    let below = side_below net c.args.knots.now c.requires.knots c.args.knot c.requires.knot c.sides-2.result.now c.sides-2.ensures m lt in
    omega (arith, below, ap (λ (xs : List ℕ). length xs) c.as_slice.ensures, c.search-found.ensures, c.in_ok-rows.ensures, c.sides.ensures)
