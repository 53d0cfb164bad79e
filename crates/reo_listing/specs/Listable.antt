-- A circuit whose boundary tables are listed part by part.
use Rattle.std.specs.Prelude.{ℕ, [], Bool}
use Rattle.reo_net_base.specs.Net.{Wiring, net_of}
use Rattle.reo_net_laws.specs.Knots.{Knotted, AreKnots}
use Rattle.reo_open.specs.declared.opens.Open.{Open}
use Rattle.reo_open.specs.Opens.{open_behaviour}
use Rattle.reo_weights.specs.Widths.{IsWide}
use Rattle.reo_listing.specs.base.Tables.{ports_in}
use Rattle.reo_listing.specs.laws.Gated.{AreHeld}

-- These are its knots, no set of its sides is wide, and at the ports of each set stand gates with all rows.
pub record IsListable (w : Wiring Open) (knots : Knotted) : Type 0 where
  pub are_knots : AreKnots (net_of open_behaviour w) knots
  pub narrow : (inside : ℕ → Bool) → IsWide (net_of open_behaviour w) inside → ⊥
  pub gates : (inside : ℕ → Bool) → AreHeld w inside (ports_in (net_of open_behaviour w) w.ports inside) []
