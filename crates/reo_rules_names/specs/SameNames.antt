-- Lists of names that hold the same names.
use Rattle.std.specs.Prelude.{ℕ, ◌≡◌, List}
use Rattle.reo_rules.specs.Lists.{has_name}

-- A name is in the one list exactly where it is in the other, in whatever order and however often.
abbrev pub SameNames : List (List ℕ) → List (List ℕ) → Type 0
SameNames xs ys = (name : List ℕ) → has_name xs name ≡ has_name ys name
