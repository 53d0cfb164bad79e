use Rattle.std.proofs.Common.{◌∙◌, ◌-◌, ◌<◌, ℕ, length, arith}
use Rattle.std.proofs.lemmas.List.{take_more, length-map, get_or-map}
use Rattle.reo_net_base.specs.Net.{Net, Side, net_of, all_sides, row_count, no_side}
use Rattle.reo_net_laws.specs.JamRows.{jam_rows}
use Rattle.reo_net.proofs.plain.jam.last_rows.Goals as goal

pub loop-side-preserved : goal.loop-side-preserved
loop-side-preserved g c =
    let net : Net = net_of g.P.Primitive.behaviour c.args.circuit.now in
    let last : Side → ℕ = λ s. row_count s - 1 in
    let in_sides : c.loop-side.side < length (all_sides net.primitives) = omega arith in
    let at = get_or-map last (all_sides net.primitives) c.loop-side.side no_side 0 in_sides in
    let here = rw (← c.rows.ensures.count no_side) at at in
    c.in_ok-push.ensures.ok ∙ rw (take_more (jam_rows net) c.loop-side.side 0 (omega (arith, length-map (all_sides net.primitives) last, in_sides)), c.loop-side.invariant, here)
