-- What a table of first places says.
use Rattle.std.specs.Prelude.{◌≡◌, ℕ, Bool, true, false, ◌&&◌, List, length, bytes_eq, flat_map, position}
use Rattle.std.specs.List.{list_any}
use Rattle.reo_trees.specs.declared.programs_two.ConnectorTwo.{ConnectorTwo}
use Rattle.reo_trees.specs.declared.programs_two.DeclarationTwo.{DeclarationTwo}
use Rattle.reo_expand.specs.base.Steps.{two_in, of_name}
use Rattle.reo_expand.specs.declared.tables.first_places.FirstPlaces.{FirstPlaces}
use Rattle.reo_expand.specs.declared.tables.firsts.Firsts.{Firsts}
use Rattle.reo_expand.specs.tables.Firsts.{place_in, is_before, has_number}

-- A declaration is a connector of this name, with a number or without.
abbrev pub is_made : Bool → List ℕ → DeclarationTwo → Bool
is_made number name d = list_any (λ (c : ConnectorTwo). bytes_eq name c.name && has_number number c) (two_in d)

-- The table has the first place of each name among these declarations.
pub record AreFirst (number : Bool) (ds : List DeclarationTwo) (t : FirstPlaces) : Type 0 where
  pub even : length t.places ≡ length t.names
  pub are : (name : List ℕ) → place_in t.names t.places name ≡ position (is_made number name) ds

-- A name's place is before so many declarations exactly where one of them is such a connector.
pub record KnowsPlaces (number : Bool) (before : List DeclarationTwo) (t : FirstPlaces) : Type 0 where
  pub even : length t.places ≡ length t.names
  pub are : (name : List ℕ) → is_before (place_in t.names t.places name) (length before) ≡ list_any (has_number number) (of_name (flat_map two_in before) name)

pub record Knows (before : List DeclarationTwo) (f : Firsts) : Type 0 where
  pub numbered : KnowsPlaces true before f.numbered
  pub plain : KnowsPlaces false before f.plain
