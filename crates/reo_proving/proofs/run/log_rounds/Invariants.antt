use Rattle.std.proofs.Common.{◌≡◌, ◌≤◌, ◌-◌, None, map}
use Rattle.reo_rounds.specs.Rules.{rules_of}
use Rattle.reo_runs.specs.at_ports.Between.{AreBetween}
use Rattle.reo_proving.proofs.SoFar.{SoFar}
use Rattle.reo_proving.proofs.run.log_rounds.Given as goal

-- What was written so far are the first rounds with their logs.
abbrev pub invariant-loop-ending : goal.invariant-loop-ending
invariant-loop-ending g l = record {
  so_far : SoFar (rules_of g.P.Primitive.behaviour g.P.Primitive.settled g.P.Ported.port_state g.P.Ported.placed g.P.Ported.withdrawn) l.ports.list l.limits.budget l.limits.rounds
      (record { state = record { circuit = l.fn.engine.circuit; players = l.fn.players }; over = None })
      (g.S.Sink.told l.fn.out) (g.S.Sink.told l.out) l.engine.rounds l.engine.circuit l.players;
  between : AreBetween l.ports.list l.engine.circuit.ports l.players (map g.P.Ported.port_state l.engine.circuit.primitives);
  within : l.engine.rounds ≤ l.limits.rounds;
  same : g.S.Sink.faults l.out ≡ g.S.Sink.faults l.fn.out;
}

abbrev pub decreases-loop-ending : goal.decreases-loop-ending
decreases-loop-ending g l = l.fn.limits.rounds - l.engine.rounds
