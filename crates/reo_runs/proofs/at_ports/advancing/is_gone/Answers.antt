use Rattle.std.proofs.Common.{◌∙◌, sym, subst, arith, ◌<◌}
use Rattle.reo_net_base.specs.Net.{Wiring}
use Rattle.reo_players.specs.Players.{player_of}
use Rattle.reo_runs.proofs.at_ports.AtPorts.{in_range}
use Rattle.reo_runs.proofs.at_ports.Offered.{offers_where}
use Rattle.reo_runs.proofs.at_ports.advancing.is_gone.Goals as goal

pub is_pending-requires : goal.is_pending-requires
is_pending-requires g c =
    let p = player_of c.args.players.now c.args.component in
    let offers = offers_where c.in-Some.port p (sym c.port_of.ensures ∙ c.in-Some.is) in
    let lt = in_range c.args.ports.now.list (g.S.Stage.circuit c.args.stage.now).ports c.args.players.now _ c.args.component c.in-Some.port offers.0 c.requires.at_ports c.requires.there offers.1 in
    subst (λ (w : Wiring g.row.P.Denot). c.in-Some.port < w.ports) (sym c.circuit.ensures) (omega (arith, c.requires.at_ports.count_is))
