-- What is known of the declarations from a place on.
use Rattle.std.specs.Prelude.{◌≡◌, ◌≤◌, ℕ, Ok, List, take, drop, reverse, flat_map}
use Rattle.reo_rules.specs.Lists.{has_name}
use Rattle.reo_trees.specs.declared.programs_two.DeclarationTwo.{DeclarationTwo}
use Rattle.reo_expand.specs.base.Expansion.{expanded, connectors_of, has_use}
use Rattle.reo_expand.specs.base.Steps.{walked, steps_from, two_in}
use Rattle.reo_expand.specs.declared.programs.behind.Behind.{Behind}

-- Their steps lead to the count, they stand for what is made, and use the names that are noted.
pub record IsBehind (ds : List DeclarationTwo) (place : ℕ) (b : Behind) : Type 0 where
  pub walked_to : walked 0 (steps_from (flat_map two_in (take place ds)) (drop place ds)) ≡ Ok b.walk.count
  pub uses : (n : List ℕ) → has_name b.uses.names n ≡ has_use (connectors_of (expanded (drop place ds))) n
  pub made : b.made ≡ reverse (expanded (drop place ds))
  pub small : b.walk.count ≤ 65536
