-- Types that lie inside others.
use Rattle.std.specs.Prelude.{◌≡◌, ◌↔◌, true}
use Rattle.reo_values.specs.declared.kindred.Kindred.{Kindred}
use Rattle.reo_exprs.specs.Kinds.{LiesInside}
use Rattle.reo_rules.specs.Ranges.{is_inside}

-- By the rule of bounds a type is found inside another exactly where it lies inside it.
abbrev pub InsideIsTested : Type 0
InsideIsTested = (s t : Kindred) → (is_inside s t ≡ true) ↔ LiesInside s t
