use Rattle.std.proofs.Common.{◌≡◌, ◌<◌, ℕ, List, length, get_or, subst, sym}
use Rattle.reo_net_base.specs.Net.{Net, net_of}
use Rattle.reo_net_laws.specs.Sublists.{part_rows}
use Rattle.reo_planning.specs.Written.{AreWritten}
use Rattle.reo_planning.proofs.Parting.{searched, sides_in_range}
use Rattle.reo_planning.proofs.parts.search_part.Goals as goal

pub put_rows-requires-clause-sides : goal.put_rows-requires-clause-sides
put_rows-requires-clause-sides g c =
    let net : Net = net_of g.P.Primitive.behaviour c.args.part.now.planning.now.circuit.now in
    let below : (m : ℕ) → m < length c.in-Ok.found.sides → get_or c.in-Ok.found.sides m 0 < length c.args.rows.now = λ m lt. subst (λ (n : ℕ). get_or c.in-Ok.found.sides m 0 < n) (sym c.requires.rows)
    (sides_in_range c.args.part.now.planning.now.budget net c.args.part.now.planning.now.knots.now c.requires.part.planning.knots c.args.part.now.planning.now.turn c.args.part.now.number c.requires.part.number c.in-Ok.found c.in-Ok.ensures.exact m lt) in
    subst (λ (xs : List ℕ). (m : ℕ) → m < length xs → get_or xs m 0 < length c.args.rows.now) (sym c.as_slice.ensures) below

pub returns-in-Ok-clause-exact : goal.returns-in-Ok-clause-exact
returns-in-Ok-clause-exact g c =
    let net : Net = net_of g.P.Primitive.behaviour c.args.part.now.planning.now.circuit.now in
    let old : List ℕ = c.args.rows.now in
    let new : List ℕ = c.put_rows.new.rows in
    let written : (from : List ℕ) → c.in-Ok.found.rows ≡ part_rows c.in-Ok.found.sides from → AreWritten c.in-Ok.found.sides from old new =
    subst (λ (xs : List ℕ). (from : List ℕ) → c.in-Ok.found.rows ≡ part_rows xs from → AreWritten xs from old new) c.as_slice.ensures
    (subst (λ (ys : List ℕ). (from : List ℕ) → ys ≡ part_rows c.as_slice.result.now from → AreWritten c.as_slice.result.now from old new) c.as_slice-in-Ok.ensures c.put_rows.ensures) in
    searched c.args.part.now.planning.now.budget net c.args.part.now.planning.now.knots.now c.requires.part.planning.knots c.args.part.now.planning.now.turn c.args.part.now.number c.requires.part.number c.in-Ok.found old new c.requires.rows c.in-Ok.ensures.exact written
