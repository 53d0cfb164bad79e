-- Values that went, and come back.
use Rattle.std.specs.Prelude.{◌<◌, ◌≡◌, ◌==◌, ◌&&◌, ◌||◌, true, List, [], ◌∷◌, ◌++◌, length}
use Rattle.std.specs.List.{All}
use Rattle.reo_joint_values.specs.Values.{Family, value_eq}
use Rattle.reo_refute_base.specs.Items.{Lists}
use Rattle.reo_refute_base.specs.Live.{all_live}
use Rattle.reo_refute_live.specs.declared.support.live.LiveAt.{LiveAt}
use Rattle.reo_refute_live.specs.support.Families.{family_of, AreLive}
use Rattle.reo_refute_live.specs.declared.trail.Gone.{Gone}

-- What is live when a value that went comes back.
abbrev pub with_back : Family → Gone → Family
with_back live g j w = live j w || ((j == g.joint) && value_eq w g.value)

-- What is live when these come back.
abbrev pub revived : Family → List Gone → Family
revived live [] = live
revived live (g ∷ gs) = with_back (revived live gs) g

-- Between two moments values went, which were noted behind those that had gone before: with them
-- back all is as it was.
pub record HasLost (before : Family) (gone : List Gone) (after : Family) (now : List Gone) : Type 0 where
  pub more : List Gone
  pub noted : now ≡ gone ++ more
  pub back : revived after more ≡ before

-- A value of a joint.
abbrev pub IsOne : Lists → Gone → Type 0
IsOne lists g = (g.joint < length lists) × (all_live lists g.joint g.value ≡ true)

-- A table for these item lists, and the values that went: with them back all values are live.
pub record AreKept (lists : Lists) (table : List LiveAt) (gone : List Gone) : Type 0 where
  pub live : AreLive lists table
  pub ones : All (IsOne lists) gone
  pub whole : revived (family_of table) gone ≡ all_live lists
