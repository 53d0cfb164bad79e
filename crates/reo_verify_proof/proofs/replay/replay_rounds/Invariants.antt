use Rattle.std.proofs.Common.{length, map}
use Rattle.reo_rounds.specs.Rules.{rules_of}
use Rattle.reo_runs.specs.at_ports.Between.{AreBetween}
use Rattle.reo_verify_proof.proofs.SoFar.{SoFar}
use Rattle.reo_verify_proof.proofs.replay.replay_rounds.Given as goal

-- The rounds so far were accepted, and as many were made.
abbrev pub invariant-loop-line : goal.invariant-loop-line
invariant-loop-line g l = record {
  so_far : SoFar (rules_of g.P.Primitive.behaviour g.P.Primitive.settled g.P.Ported.port_state g.P.Ported.placed g.P.Ported.withdrawn) l.ports.list
      (record { state = record { circuit = l.fn.stage.circuit; players = l.fn.players }; over = l.fn.begins })
      l.proof l.reader l.before l.stage.rounds l.stage.circuit l.players l.over;
  between : AreBetween l.ports.list l.stage.circuit.ports l.players (map g.P.Ported.port_state l.stage.circuit.primitives);
}

abbrev pub decreases-loop-line : goal.decreases-loop-line
decreases-loop-line g l = length l.reader
