use Rattle.std.proofs.Common.{◌≡◌, ◌-◌, ◌≤◌, length, map}
use Rattle.reo_rounds.specs.Rules.{rules_of}
use Rattle.reo_runs.specs.at_ports.Pending.{IsButForOffers}
use Rattle.reo_runs.proofs.at_ports.AllGoOn.{Advancing}
use Rattle.reo_runs.proofs.at_ports.advancing.advance_awake.Given as goal

-- The first so many have gone on.
abbrev pub invariant-loop-component : goal.invariant-loop-component
invariant-loop-component g l =
    let r = rules_of g.P.Primitive.behaviour g.P.Primitive.settled g.P.Ported.port_state g.P.Ported.placed g.P.Ported.withdrawn in
    record {
      in_range : l.component ≤ length l.players;
      on : Advancing l.ports.list (g.S.Stage.circuit l.stage).ports l.component l.fn.players l.players (map g.P.Ported.port_state (g.S.Stage.circuit l.initial.stage).primitives) (map g.P.Ported.port_state (g.S.Stage.circuit l.stage).primitives);
      circuit : IsButForOffers r (g.S.Stage.circuit l.initial.stage) (g.S.Stage.circuit l.stage);
      rounds : (g.S.Stage.rounds l.stage) ≡ (g.S.Stage.rounds l.initial.stage);
    }

abbrev pub decreases-loop-component : goal.decreases-loop-component
decreases-loop-component g l = length l.players - l.component
