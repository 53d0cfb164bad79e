-- Exactly one.
use Rattle.std.specs.Prelude.{ℕ, ◌<◌, ◌≡◌}

-- A fact that holds of exactly one of the numbers below a bound.
pub record IsOnce (bound : ℕ) (Fact : ℕ → Type 0) : Type 0 where
  pub place : ℕ
  pub below : place < bound
  pub holds : Fact place
  pub only : (other : ℕ) → other < bound → Fact other → other ≡ place
