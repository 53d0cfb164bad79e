-- A round that stands.
use Rattle.std.specs.Prelude.{ℕ}
use Rattle.reo_net_base.specs.Net.{Net}
use Rattle.reo_net_laws.specs.Knots.{Knotted, knot_count}
use Rattle.reo_weights.specs.Over.{Cause, IsOver}
use Rattle.reo_settling.specs.Plannings.{Kept, AllServe}
pub use Rattle.reo_round.specs.declared.made_round.MadeRound.{MadeRound}
use Rattle.reo_round.specs.MadeRound.{HaveFirstItems}
pub use Rattle.reo_round.specs.MadeRound.{IsMadeRound}

-- No part is over, and what stands is the first colouring.
pub record IsMadeWithin (budget : ℕ) (net : Net) (ports turn : ℕ) (s : MadeRound) : Type 0 where
  pub within : (cause : Cause) → IsOver budget net cause → ⊥
  pub is_made : IsMadeRound net ports turn s

-- All parts are settled within a budget: the rows that are kept are those of the first colouring of the round of a
-- number.
pub record AreRenewed (budget : ℕ) (net : Net) (knots : Knotted) (turn : ℕ) (kept : Kept) : Type 0 where
  pub serve : AllServe (knot_count knots) budget kept
  pub within : (cause : Cause) → IsOver budget net cause → ⊥
  pub first : HaveFirstItems net turn kept.rows
