-- Where connectors of a name stand first, with a number and without.
use Rattle.std.specs.Prelude.{ℕ, Bool, true, false, ◌&&◌, not, nat_lt, Option, Some, None, is_some, is_none, List, bytes_eq, position, slice_index_or}
use Rattle.std.specs.List.{list_any}
use Rattle.reo_trees.specs.declared.programs_two.ConnectorTwo.{ConnectorTwo}

-- The first of two answers, if there is one.
abbrev pub or_else : Option ℕ → Option ℕ → Option ℕ
or_else None o = o
or_else (Some n) o = Some n

-- The place that a number finds.
abbrev pub place_at : List ℕ → Option ℕ → Option ℕ
place_at places None = None
place_at places (Some k) = Some (slice_index_or places k 0)

-- The place of a name.
abbrev pub place_in : List (List ℕ) → List ℕ → List ℕ → Option ℕ
place_in names places name = place_at places (position (bytes_eq name) names)

abbrev pub is_before : Option ℕ → ℕ → Bool
is_before None place = false
is_before (Some n) place = nat_lt n place

-- A connector has a number, or has none.
abbrev pub has_number : Bool → ConnectorTwo → Bool
has_number true c = is_some c.number
has_number false c = is_none c.number

-- There are connectors, and none of them has a number, where one is given, or lacks one, where none is.
abbrev pub is_unfit : Bool → List ConnectorTwo → Bool
is_unfit number cs = list_any (has_number (not number)) cs && not (list_any (has_number number) cs)
