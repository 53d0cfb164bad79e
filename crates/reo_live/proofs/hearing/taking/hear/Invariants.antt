use Rattle.std.proofs.Common.{◌≡◌, ◌≤◌, ◌+◌, ◌-◌, ◌^◌, false}
use Rattle.reo_rounds.specs.Rules.{rules_of}
use Rattle.reo_live.specs.closings.Sources.{state_of}
use Rattle.reo_live.specs.hearing.Heard.{SoFar}
use Rattle.reo_live.proofs.hearing.taking.hear.Given as goal

-- What was taken was heard, and neither a take nor a put has failed.
abbrev pub invariant-hearing : goal.invariant-hearing
invariant-hearing g l = record {
  far : SoFar (rules_of g.P.Primitive.behaviour g.P.Primitive.settled g.P.Ported.port_state g.P.Ported.placed g.P.Ported.withdrawn) l.fn.live.ports l.fn.live.budget
      l.fn.live.live.stand.circuit (g.S.Sink.told l.fn.out) (g.S.Sink.told l.out)
      (state_of g.R.Source.told g.R.Source.given g.R.Source.ends g.R.Source.faults l.fn.source) (state_of g.R.Source.told g.R.Source.given g.R.Source.ends g.R.Source.faults l.source) l.live.live l.taken;
  unspent : l.live.live.stand.over ≡ false;
  lines : l.live.live.stand.lines ≤ l.taken;
  few : l.taken ≤ 2 ^ 32 + 1;
  ports : l.live.ports ≡ l.fn.live.ports;
  budget : l.live.budget ≡ l.fn.live.budget;
  no_miss : g.R.Source.faults l.source ≡ g.R.Source.faults l.fn.source;
  no_break : g.S.Sink.faults l.out ≡ g.S.Sink.faults l.fn.out;
}

abbrev pub decreases-hearing : goal.decreases-hearing
decreases-hearing g l = 2 ^ 32 + 1 - l.taken
