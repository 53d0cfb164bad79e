-- Names in first-seen order.
use Rattle.std.specs.Prelude.{ℕ, cond, List, [], ◌∷◌, ◌++◌}
use Rattle.reo_rules.specs.Lists.{has_name}

-- The names after one more is seen: a name that is there already stays where it is.
abbrev pub with_name : List (List ℕ) → List ℕ → List (List ℕ)
with_name names name = cond (has_name names name) names (names ++ name ∷ [])
