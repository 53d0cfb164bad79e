use Rattle.reo_net_base.specs.Net.{net_of}
use Rattle.reo_refute_live.specs.OpenBranch.{IsClosed}
use Rattle.reo_refute_parts.specs.places.AllowedRows.{AreAgreeing}
use Rattle.reo_refute.specs.proving.Making.{ArePartsMade}
use Rattle.reo_refute.proofs.proving.parts.put_parts.Given as goal

-- The lines so far go past the places so far.
abbrev pub invariant-loop-number : goal.invariant-loop-number
invariant-loop-number g l = record {
  agreeing : AreAgreeing (net_of g.P.Primitive.behaviour l.round.circuit.now) l.round.turn l.round.given.now l.number l.allowed.agreeing;
  closed : IsClosed l.round.lists.now l.scratch.live;
  made : ArePartsMade (net_of g.P.Primitive.behaviour l.round.circuit.now) l.round.turn l.round.given.now l.round.lists.now 0 l.number l.initial.out l.out;
}
