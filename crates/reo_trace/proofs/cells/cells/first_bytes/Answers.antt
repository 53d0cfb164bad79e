use Rattle.std.proofs.Common.{◌≡◌, ◌∙◌, ◌<◌, ℕ, sym, arith, length, get_or}
use Rattle.std.proofs.lemmas.List.{get_or-map}
use Rattle.reo_net_base.specs.Net.{Net, all_sides, net_of, no_side}
use Rattle.reo_trace.specs.cells.Texts.{before_side, befores}
use Rattle.reo_trace.proofs.cells.Kept.{pushed_more}
use Rattle.reo_trace.proofs.cells.Laid.{befores-length}
use Rattle.reo_trace.proofs.cells.cells.first_bytes.Goals as goal

pub loop-side-preserved : goal.loop-side-preserved
loop-side-preserved g c =
    let net : Net = net_of g.P.Primitive.behaviour c.args.circuit.now in
    let n : ℕ = c.loop-side.side in
    let lt : n < length (all_sides net.primitives) = omega (arith, c.sides-side-end.ensures) in
    let before : c.before-in-loop-side.result ≡ get_or (befores net) n 0 =
    c.before-in-loop-side.ensures no_side ∙ sym (get_or-map before_side (all_sides net.primitives) n no_side 0 lt) in
    pushed_more (befores net) n c.before-in-loop-side.result c.loop-side.text c.push.new.self c.push-in-loop-side.new.self (omega (arith, lt, befores-length net))
    c.loop-side.invariant before c.in_ok-push.ensures.ok c.in_ok-push-2.ensures.ok
