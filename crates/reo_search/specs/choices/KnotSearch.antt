-- What is searched, and what is tried of it.
use Rattle.std.specs.Prelude.{ℕ, ◌<◌, ◌≤◌, ◌≡◌, Bool, true, List, length, slice_index_or}
use Rattle.reo_net_base.specs.Net.{Net}
use Rattle.reo_net_base.specs.Sides.{side_count}
use Rattle.reo_net_laws.specs.Parts.{IsKnot}
use Rattle.reo_joint_values.specs.Values.{Names}
use Rattle.reo_rows.specs.Sets.{names_of}
use Rattle.reo_propagate.specs.Queues.{among}
use Rattle.reo_walk.specs.declared.place.KeyPlace.{KeyPlace}
use Rattle.reo_walk.specs.Places.{side_of_place}
use Rattle.reo_search.specs.declared.choices.knot_search.KnotSearch.{KnotSearch}
use Rattle.reo_search.specs.choices.Remaining.{AreLoopsIn, IsLeftOfAll, CoverAll}
use Rattle.reo_search.specs.choices.Trying.{CoverWith}

-- Whether a side is one of its sides.
abbrev pub inside_of : {P : Type 0} → KnotSearch P → ℕ → Bool
inside_of searched = among searched.sides.now

-- The items that the numbers at its joints stand for.
abbrev pub names_in : {P : Type 0} → KnotSearch P → Names
names_in searched = names_of searched.basis.now.items.now

-- It can be searched: its sides are a knot, and it has places there and the loop joints.
pub record IsSearched {P : Type 0} (net : Net) (searched : KnotSearch P) : Type 0 where
  pub knot : IsKnot net (inside_of searched)
  pub sides_are : (s : ℕ) → inside_of searched s ≡ true → s < side_count net
  pub some_side : 0 < length searched.sides.now
  pub places_are : (k : ℕ) (d : KeyPlace) → k < length searched.places.now
      → inside_of searched (side_of_place (slice_index_or searched.places.now k d)) ≡ true
  pub loops_are : AreLoopsIn net (inside_of searched) searched.loops.now

-- What is left of all values, and a list of it for each loop joint, which has the value there of
-- each assignment.
pub record IsLeftIn {P : Type 0} (net : Net) (searched : KnotSearch P) (alive : List (List Bool))
    (left : List (List ℕ)) : Type 0 where
  pub of_all : IsLeftOfAll net (names_in searched) (inside_of searched) alive
  pub one_each : length left ≡ length searched.loops.now
  pub cover : CoverAll net (names_in searched) (inside_of searched) searched.loops.now left

-- A front: values at the first loop joints, and a list for each loop joint, which has the value
-- there of each assignment with those values.
pub record IsFront {P : Type 0} (net : Net) (searched : KnotSearch P) (codes : List ℕ)
    (left : List (List ℕ)) : Type 0 where
  pub within : length codes ≤ length searched.loops.now
  pub one_each : length left ≡ length searched.loops.now
  pub cover : CoverWith net (names_in searched) (inside_of searched) searched.loops.now codes left
