use Rattle.std.proofs.Common.{◌≡◌, ◌∙◌, List, map, ap, sym, subst}
use Rattle.std.specs.Prelude.{Some, None, cond}
use Rattle.reo_net_base.specs.Net.{Wiring}
use Rattle.reo_players.specs.Players.{Player, all_done}
use Rattle.reo_trace.specs.declared.line.Ending.TheVariants.{Done}
use Rattle.reo_rounds.specs.Rules.{rules_of}
use Rattle.reo_runs.specs.Run.{Place, start_of}
use Rattle.reo_runs.specs.at_ports.Between.{AreBetween}
use Rattle.reo_runs.proofs.at_ports.Begun.{between_first}
use Rattle.reo_proof_texts.specs.ProofVerdicts.{IsProofVerdict}
use Rattle.reo_verify_proof.specs.Answered.{IfVerdict}
use Rattle.reo_verify_proof.proofs.replay.replay.Goals as goal

pub replay_rounds-requires-clause-between : goal.replay_rounds-requires-clause-between
replay_rounds-requires-clause-between g c =
    let first = between_first (map g.P.Ported.port_state c.args.circuit.primitives) c.args.circuit.ports c.args.ports.now.list c.args.script.components c.requires.fit in
    let players = subst (λ ps. AreBetween c.args.ports.now.list c.args.circuit.ports ps (map g.P.Ported.port_state c.args.circuit.primitives)) (sym c.in-Ok.ensures) first in
    subst (λ (w : Wiring g.row.P.Denot). AreBetween c.args.ports.now.list w.ports c.in-Ok.players (map g.P.Ported.port_state w.primitives)) (sym c.new-stage.ensures.circuit) players

pub returns : goal.returns
returns g c =
    let r = rules_of g.P.Primitive.behaviour g.P.Primitive.settled g.P.Ported.port_state g.P.Ported.placed g.P.Ported.withdrawn in
    let over = c.begins-begins.ensures ∙ ap (λ (ps : List Player). cond (all_done ps) (Some (Done 0)) None) c.in-Ok.ensures in
    let start : Place g.row.P.Denot = start_of c.args.circuit c.args.script.components in
    let same : record { state = record { circuit = c.new-stage.result.circuit; players = c.in-Ok.players }; over = c.begins-begins.result } ≡ start =
    λ i. record { state = record { circuit = c.new-stage.ensures.circuit i; players = c.in-Ok.ensures i }; over = over i } in
    subst (λ (s : Place g.row.P.Denot). IfVerdict c.replay_rounds.result (IsProofVerdict r c.args.ports.now.list c.args.nodes.now c.args.homes.now s c.args.proof.now)) same c.replay_rounds.ensures
