use Rattle.std.proofs.Common.{subst, arith, ◌≡◌, ℕ, length}
use Rattle.std.proofs.lemmas.Option.{slice_get_read}
use Rattle.std.proofs.Common.{refl}
use Rattle.reo_runs.specs.at_ports.Parts.{AreRoused}
use Rattle.reo_runs.proofs.at_ports.Roused.{none_roused, one_more_roused}
use Rattle.reo_runs.proofs.at_ports.advancing.rouse_all.Goals as goal

pub loop-flow-init : goal.loop-flow-init
loop-flow-init c = none_roused c.args.moves.now c.args.players.now

pub loop-flow-preserved : goal.loop-flow-preserved
loop-flow-preserved c =
    let moves = c.args.moves.now in
    let at = slice_get_read moves (length moves) c.loop-flow.flow-index c.flow-item.result refl c.loop-flow-test.true c.flow-item.is in
    one_more_roused moves c.loop-flow.flow-index c.flow-item.result at c.args.players.now c.loop-flow.players c.rouse_at.new.self c.loop-flow.invariant c.rouse_at.ensures

pub returns : goal.returns
returns c =
    let same : c.loop-flow.flow-index ≡ length c.args.moves.now = omega arith in
    subst (λ (n : ℕ). AreRoused c.args.moves.now n c.args.players.now c.loop-flow.players) same c.loop-flow.invariant
