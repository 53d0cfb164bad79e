-- Flags that tell in which parts something flows.
use Rattle.std.specs.Prelude.{ℕ, ◌<◌, ◌≤◌, ◌≡◌, Bool, true, false, List, length}
use Rattle.reo_net_base.specs.Net.{Net}
use Rattle.reo_net_laws.specs.Knots.{Knotted, in_knot}
use Rattle.reo_weights.specs.still.Still.{IsStill}
use Rattle.reo_planning.specs.declared.kept.Kept.{Kept}
use Rattle.reo_planning.specs.Keeping.{FlowsIn, is_settled, is_moving}

-- A flag tells whether something flows in a set of sides.
pub record TellsFlow (net : Net) (inside : ℕ → Bool) (rows : List ℕ) (flag : Bool) : Type 0 where
  pub still : flag ≡ false → IsStill net inside rows
  pub flows : flag ≡ true → FlowsIn net inside rows

-- The first n parts are settled. Those that were settled have the flags that they had, and the
-- flags of the others among these tell whether something flows there by some rows. The rows that are kept stay.
pub record AreMarked (net : Net) (knots : Knotted) (rows : List ℕ) (n : ℕ) (old new : Kept)
    : Type 0 where
  pub kept : new.rows ≡ old.rows
  pub one_each : length new.settled ≡ length old.settled
  pub one_mark : length new.moving ≡ length old.moving
  pub settled : (k : ℕ) → k < n → is_settled new k ≡ true
  pub rest : (k : ℕ) → n ≤ k → is_settled new k ≡ is_settled old k
  pub stay : (k : ℕ) → is_settled old k ≡ true → is_moving new k ≡ is_moving old k
  pub told : (k : ℕ) → k < n → is_settled old k ≡ false
      → TellsFlow net (in_knot knots.numbers k) rows (is_moving new k)
