-- Which first assignment is wanted.
use Rattle.std.specs.Prelude.{ℕ, ◌<◌, Bool}
use Rattle.reo_net_base.specs.Net.{Net}
use Rattle.reo_net_laws.specs.Knots.{AreKnots, in_knot, knot_count}
use Rattle.reo_walk.specs.declared.wanted.Wanted.{Wanted}

-- It can be searched for: the knots are those of the circuit, and the number is that of one of them.
pub record IsWanted {P : Type 0} (net : Net) (wanted : Wanted P) : Type 0 where
  pub knots : AreKnots net wanted.knots.now
  pub knot : wanted.knot < knot_count wanted.knots.now

-- Whether a side is one of its knot.
abbrev pub in_wanted : {P : Type 0} → Wanted P → ℕ → Bool
in_wanted wanted = in_knot wanted.knots.now.numbers wanted.knot
