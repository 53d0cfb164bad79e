use Rattle.std.proofs.Common.{◌≡◌, ◌∙◌, true, map, refl, sym, ap, subst}
use Rattle.reo_net_base.specs.Net.{Wiring}
use Rattle.reo_players.specs.Players.{all_done, beginning_of}
use Rattle.reo_rounds.specs.Rules.{rules_of}
use Rattle.reo_runs.specs.Run.{start_of}
use Rattle.reo_runs.specs.at_ports.Between.{AreBetween}
use Rattle.reo_runs.proofs.at_ports.Begun.{just_ports, between_first}
use Rattle.reo_runner.proofs.StartLemmas.{kept_none, done_first}
use Rattle.reo_runner.proofs.runner.run_counted.Goals as goal

pub returns-in_default-clause-came : goal.returns-in_default-clause-came
returns-in_default-clause-came g c =
    let r = rules_of g.P.Primitive.behaviour g.P.Primitive.settled g.P.Ported.port_state g.P.Ported.placed g.P.Ported.withdrawn in
    kept_none r c.args.ports.now.list c.args.limits.budget c.args.limits.rounds (start_of c.args.circuit c.args.script.components) (c.has_runs.ensures c.args.limits.budget c.args.limits.rounds _ refl)
    _ c.outcome.result c.new-tally.result c.new-tally.ensures.rounds c.new-tally.ensures.written c.new-tally.ensures.delivered c.outcome.ensures.tally c.outcome.ensures.end

pub returns-then-all_done-clause-came : goal.returns-then-all_done-clause-came
returns-then-all_done-clause-came g c =
    let r = rules_of g.P.Primitive.behaviour g.P.Primitive.settled g.P.Ported.port_state g.P.Ported.placed g.P.Ported.withdrawn in
    let done : all_done (map beginning_of c.args.script.components) ≡ true = sym (ap all_done c.in-Ok.ensures) ∙ sym c.all_done.ensures ∙ c.if-all_done.true in
    done_first r c.args.ports.now.list c.args.limits.budget c.args.limits.rounds c.args.circuit c.args.script.components done _ _ c.close.result c.new-tally.result
    c.new-tally.ensures.rounds c.new-tally.ensures.written c.new-tally.ensures.delivered c.close.ensures.text

pub new-requires-2 : goal.new-requires-2
new-requires-2 g c = just_ports _ _ c.args.ports.now.list c.requires.fit.count_is c.requires.fit.ports_are

pub returns-in_default-new-clause-came : goal.returns-in_default-new-clause-came
returns-in_default-new-clause-came g c =
    let r = rules_of g.P.Primitive.behaviour g.P.Primitive.settled g.P.Ported.port_state g.P.Ported.placed g.P.Ported.withdrawn in
    kept_none r c.args.ports.now.list c.args.limits.budget c.args.limits.rounds (start_of c.args.circuit c.args.script.components) (c.has_runs.ensures c.args.limits.budget c.args.limits.rounds _ refl)
    _ c.outcome-in_default-new.result c.new-tally.result c.new-tally.ensures.rounds c.new-tally.ensures.written c.new-tally.ensures.delivered c.outcome-in_default-new.ensures.tally c.outcome-in_default-new.ensures.end

pub play_rounds-outcome-requires-clause-between : goal.play_rounds-outcome-requires-clause-between
play_rounds-outcome-requires-clause-between g c =
    let first = between_first (map g.P.Ported.port_state c.args.circuit.primitives) c.args.circuit.ports c.args.ports.now.list c.args.script.components c.requires.fit in
    let players = subst (λ ps. AreBetween c.args.ports.now.list c.args.circuit.ports ps (map g.P.Ported.port_state c.args.circuit.primitives)) (sym c.in-Ok.ensures) first in
    subst (λ (w : Wiring g.row.P.Denot). AreBetween c.args.ports.now.list w.ports c.in-Ok.players (map g.P.Ported.port_state w.primitives)) (sym c.in-Ok-new.ensures.circuit) players
