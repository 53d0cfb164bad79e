-- Assignments, by values at joints.
use Rattle.std.specs.Prelude.{ℕ, ◌≡◌, Bool, true, List, map}
use Rattle.std.specs.List.{range_with_len}
use Rattle.reo_net_base.specs.Net.{Net}
use Rattle.reo_net_base.specs.Sides.{side_count}
use Rattle.reo_joint_values.specs.Values.{Names, Choice, Family}
use Rattle.reo_joint_values.specs.Fitting.{Fits, IsFrom}

-- An assignment: rows of the sides of a set and values at their joints, from given sets, that fit
-- together.
pub record IsChosen (net : Net) (names : Names) (inside : ℕ → Bool) (sets : Family)
    (rows : ℕ → ℕ) (choice : Choice) : Type 0 where
  pub fits : (side : ℕ) → inside side ≡ true → Fits net names choice side (rows side)
  pub from : (side : ℕ) → inside side ≡ true → IsFrom net sets choice side

-- The rows of all sides, as a list.
abbrev pub rows_of : Net → (ℕ → ℕ) → List ℕ
rows_of net rows = map rows (range_with_len 0 (side_count net))
