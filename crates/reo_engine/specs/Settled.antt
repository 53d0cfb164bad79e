-- Parts that stay settled.
use Rattle.std.specs.Prelude.{ℕ, ◌≡◌, Bool, true, false, List, length}
use Rattle.reo_net_base.specs.Net.{Net}
use Rattle.reo_net_laws.specs.Knots.{Knotted}
use Rattle.reo_settling.specs.Plannings.{Kept, is_settled, is_moving, AreFewer, AreApart}

-- Over a round the parts that were settled stay so where they do not move and no primitive that is
-- marked has a side of them.
pub record StaySettled (net : Net) (knots : Knotted) (marks : List Bool) (old new : Kept)
    : Type 0 where
  pub fewer : AreFewer old new
  pub stay : (k : ℕ) → is_settled old k ≡ true → is_moving old k ≡ false
      → AreApart net knots marks (length marks) k → is_settled new k ≡ true
