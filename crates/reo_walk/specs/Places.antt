-- Places of a key, and what is left of a family when a place is held to the number of a row.
use Rattle.std.specs.Prelude.{ℕ, ◌==◌, ◌&&◌, ◌||◌, Bool, not, List, ◌++◌, map, filter}
use Rattle.reo_net_base.specs.declared.mark.Mark.{Mark}
use Rattle.reo_net_base.specs.Net.{Net}
use Rattle.reo_net_laws.specs.Ends.{same_mark, same_kind}
use Rattle.reo_net_laws.specs.Keys.{class_of, leads_at}
use Rattle.reo_joint_values.specs.declared.value.JointValue.{JointValue}
use Rattle.reo_joint_values.specs.Values.{Family, giver_side, taker_side}
use Rattle.reo_side_tables.specs.Marks.{mark_at_joint}
use Rattle.reo_rows.specs.Stands.{value_mark}
use Rattle.reo_walk.specs.declared.place.KeyPlace.{KeyPlace}
use Rattle.reo_walk.specs.declared.place.KeyPlace.TheVariants.{Class, Row}

-- The side of a place.
abbrev pub side_of_place : KeyPlace → ℕ
side_of_place (Class side) = side
side_of_place (Row side) = side

-- The number that a row puts at a place.
abbrev pub number_of : Net → ℕ → KeyPlace → ℕ → ℕ
number_of net turn (Class side) row = class_of net turn side row
number_of net turn (Row side) row = row

-- The numbers that rows put at some places.
abbrev pub numbers : Net → ℕ → List KeyPlace → (ℕ → ℕ) → List ℕ
numbers net turn places rows = map (λ p. number_of net turn p (rows (side_of_place p))) places

-- The places of some sides: the classes of those that lead, the classes of all, and the rows of all.
abbrev pub places_in : Net → List ℕ → List KeyPlace
places_in net sides = map Class (filter (leads_at net) sides) ++ (map Class sides ++ map Row sides)

-- Whether a mark is as a row's at a place: a class tells flow, no flow and jam apart, a row all four marks.
abbrev pub suits : KeyPlace → Mark → Mark → Bool
suits (Class side) mark other = same_kind mark other
suits (Row side) mark other = same_mark mark other

-- Whether a joint is at a side.
abbrev pub is_at_side : Net → ℕ → ℕ → Bool
is_at_side net side j = (giver_side net j == side) || (taker_side net j == side)

-- Whether a value suits a row at a place, if its joint is there.
abbrev pub value_suits : Net → KeyPlace → ℕ → ℕ → JointValue → Bool
value_suits net p row j v = not (is_at_side net (side_of_place p) j)
    || suits p (value_mark net (side_of_place p) j v) (mark_at_joint net (side_of_place p) row j)

-- The values that a row leaves at a place.
abbrev pub held_to : Net → KeyPlace → ℕ → Family → Family
held_to net p row family j v = family j v && value_suits net p row j v
