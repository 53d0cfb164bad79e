-- What is known of joints stays where a circuit changes elsewhere.
use Rattle.std.specs.Prelude.{ℕ, ◌≡◌, Bool}
use Rattle.reo_net_base.specs.Net.{Net}
use Rattle.reo_net_base.specs.Wired.{IsWired}
use Rattle.reo_net_laws.specs.Parts.{IsClosed}
use Rattle.reo_net_laws.specs.Alike.{AreAlike}
use Rattle.reo_reach.specs.Supplied.{Supplied, items_at, is_wide, IsReached}
use Rattle.reo_joint_values.specs.Many.{IsJointIn}

-- Two supplies are the same at the joints of a set.
pub record AgreeAt (net : Net) (inside : ℕ → Bool) (old new : Supplied) : Type 0 where
  pub items : (j : ℕ) → IsJointIn net inside j → items_at new j ≡ items_at old j
  pub wide : (j : ℕ) → IsJointIn net inside j → is_wide new j ≡ is_wide old j

-- The joints of a closed set that are reached are also reached in a circuit that is alike on the
-- set, by a supply that is the same there.
abbrev pub ReachedStay : Type 0
ReachedStay = (net other : Net) → IsWired net → (inside : ℕ → Bool) → IsClosed net inside
    → AreAlike net other inside → (old new : Supplied) → AgreeAt net inside old new
    → (j : ℕ) → IsJointIn net inside j → IsReached net old j → IsReached other new j
