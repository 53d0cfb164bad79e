use Rattle.std.proofs.Common.{◌≡◌, ◌≢◌, ◌<◌, ℕ, true}
use Rattle.reo_net_base.specs.Net.{net_of}
use Rattle.reo_planning.specs.Keeping.{is_settled}
use Rattle.reo_planning.specs.Unsettling.{AreFewer, AreUnsettled, part_at}
use Rattle.reo_planning.proofs.kept.Kept.unsettle.Given as goal

-- The parts of the sides so far are not settled.
abbrev pub invariant-loop-side : goal.invariant-loop-side
invariant-loop-side g l = record {
  fewer : AreFewer l.initial.self l.self;
  gone : AreUnsettled (net_of g.P.Primitive.behaviour l.circuit) l.knots l.primitive l.side l.self;
  stay : (k : ℕ) → ((side : ℕ) → side < l.side → part_at (net_of g.P.Primitive.behaviour l.circuit) l.knots l.primitive side ≢ k) → is_settled l.initial.self k ≡ true → is_settled l.self k ≡ true;
}
