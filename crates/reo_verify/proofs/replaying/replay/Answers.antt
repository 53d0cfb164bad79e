use Rattle.std.proofs.Common.{◌≡◌, ◌∙◌, List, map, ap, sym, subst}
use Rattle.std.specs.Prelude.{MatchResult, OnOk, Some, None, cond}
use Rattle.reo_net_base.specs.Net.{Wiring}
use Rattle.reo_players.specs.Players.{Player, all_done}
use Rattle.reo_trace.specs.declared.line.Ending.TheVariants.{Done}
use Rattle.reo_rounds.specs.Rules.{rules_of}
use Rattle.reo_runs.specs.Run.{Place, start_of}
use Rattle.reo_runs.specs.at_ports.Between.{AreBetween}
use Rattle.reo_runs.proofs.at_ports.Begun.{between_first}
use Rattle.reo_verify.specs.Replayed.{AreReplayed, IsHalted}
use Rattle.reo_verify.proofs.replaying.replay.Goals as goal

pub replay_rounds-requires-clause-between : goal.replay_rounds-requires-clause-between
replay_rounds-requires-clause-between g c =
    let first = between_first (map g.P.Ported.port_state c.args.circuit.primitives) c.args.circuit.ports c.args.ports.now.list c.args.script.components c.requires.fit in
    let players = subst (λ ps. AreBetween c.args.ports.now.list c.args.circuit.ports ps (map g.P.Ported.port_state c.args.circuit.primitives)) (sym c.in_ok-players.ensures) first in
    subst (λ (w : Wiring g.row.P.Denot). AreBetween c.args.ports.now.list w.ports c.in_ok-players.players (map g.P.Ported.port_state w.primitives)) (sym c.new-stage.ensures.circuit) players

pub returns-clause-replayed : goal.returns-clause-replayed
returns-clause-replayed g c =
    let r = rules_of g.P.Primitive.behaviour g.P.Primitive.settled g.P.Ported.port_state g.P.Ported.placed g.P.Ported.withdrawn in
    let over = c.begins-begins.ensures ∙ ap (λ (ps : List Player). cond (all_done ps) (Some (Done 0)) None) c.in_ok-players.ensures in
    let start : Place g.row.P.Denot = start_of c.args.circuit c.args.script.components in
    let same : record { state = record { circuit = c.new-stage.result.circuit; players = c.in_ok-players.players }; over = c.begins-begins.result } ≡ start =
    λ i. record { state = record { circuit = c.new-stage.ensures.circuit i; players = c.in_ok-players.ensures i }; over = over i } in
    subst (λ (s : Place g.row.P.Denot). MatchResult c.replay_rounds.result (AreReplayed r s c.args.rounds) (IsHalted r c.args.nodes.now c.args.homes.now s c.args.rounds)) same c.replay_rounds.ensures.replayed

pub returns-clause-seen : goal.returns-clause-seen
returns-clause-seen g c =
    let over = c.begins-begins.ensures ∙ ap (λ (ps : List Player). cond (all_done ps) (Some (Done 0)) None) c.in_ok-players.ensures in
    let start : Place g.row.P.Denot = start_of c.args.circuit c.args.script.components in
    let same : record { state = record { circuit = c.new-stage.result.circuit; players = c.in_ok-players.players }; over = c.begins-begins.result } ≡ start =
    λ i. record { state = record { circuit = c.new-stage.ensures.circuit i; players = c.in_ok-players.ensures i }; over = over i } in
    subst (λ (s : Place g.row.P.Denot). OnOk c.replay_rounds.result (g.W.Witness.seen c.args.witness.now s c.args.rounds c.replay_rounds.new.witness)) same c.replay_rounds.ensures.seen
