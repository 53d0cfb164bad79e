use Rattle.std.proofs.Common.{◌≤◌, ◌+◌, ◌≡◌, length}
use Rattle.std.specs.Prelude.{false}
use Rattle.reo_rounds.specs.Rules.{rules_of}
use Rattle.reo_live.specs.talk.Talks.{live_of}
use Rattle.reo_live.proofs.talk.HearLemmas.{SoFar}
use Rattle.reo_live.proofs.talk.hearing.hear.Given as goal

-- The answers so far are those to what was cut off, and no put has failed.
abbrev pub invariant-cutting : goal.invariant-cutting
invariant-cutting g l = record {
  so_far : SoFar (rules_of g.P.Primitive.behaviour g.P.Primitive.settled g.P.Ported.port_state g.P.Ported.placed g.P.Ported.withdrawn) l.ports.list l.budget
      (live_of l.fn.engine l.fn.lines false l.fn.line) l.fn.piece (live_of l.engine l.lines false l.line) l.rest (g.S.Sink.told l.fn.out) (g.S.Sink.told l.out);
  few : l.engine.rounds ≤ l.lines;
  room : l.lines + length l.rest ≤ l.fn.lines + length l.fn.piece;
  same : g.S.Sink.faults l.out ≡ g.S.Sink.faults l.fn.out;
}

abbrev pub decreases-cutting : goal.decreases-cutting
decreases-cutting g l = length l.rest
