use Rattle.std.proofs.Common.{◌≡◌, ◌++◌, List, length, map}
use Rattle.reo_trace.specs.declared.line.RoundLine.{RoundLine}
use Rattle.reo_rounds.specs.Rules.{rules_of}
use Rattle.reo_runs.specs.at_ports.Between.{AreBetween}
use Rattle.reo_runs.specs.verdicts.Said.{jammed}
use Rattle.reo_verify.proofs.SoFar.{SoFar}
use Rattle.reo_verify.proofs.replaying.replay_rounds.Given as goal

-- The lines that were taken are rounds, as many were made, their cells are counted, and they are seen.
abbrev pub invariant-loop-line : goal.invariant-loop-line
invariant-loop-line g l = record {
  done : List RoundLine;
  cut : l.fn.rounds ≡ done ++ l.left;
  so_far : SoFar (rules_of g.P.Primitive.behaviour g.P.Primitive.settled g.P.Ported.port_state g.P.Ported.placed g.P.Ported.withdrawn)
      (record { state = record { circuit = l.fn.stage.circuit; players = l.fn.players }; over = l.fn.begins })
      done l.stage.circuit l.players l.over;
  between : AreBetween l.ports.list l.stage.circuit.ports l.players (map g.P.Ported.port_state l.stage.circuit.primitives);
  count : l.stage.rounds ≡ length done;
  jams : l.jammed ≡ jammed done;
  seen : g.W.Witness.seen l.fn.witness (record { state = record { circuit = l.fn.stage.circuit; players = l.fn.players }; over = l.fn.begins })
      done l.witness;
}

abbrev pub decreases-loop-line : goal.decreases-loop-line
decreases-loop-line g l = length l.left
