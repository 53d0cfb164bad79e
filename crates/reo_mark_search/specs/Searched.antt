-- What is searched.
use Rattle.std.specs.Prelude.{ℕ, ◌<◌, Bool, List, [], slice_index_or}
use Rattle.reo_net_base.specs.Net.{Net}
use Rattle.reo_net_laws.specs.Knots.{AreKnots, in_knot, knot_count}
use Rattle.reo_mark_search.specs.declared.searched.Searched.{Searched}
use Rattle.reo_mark_search.specs.Fitting.{AreNoted}
use Rattle.reo_mark_search.specs.Spots.{AreSpots}

-- Whether a side is one of the part, and the sides of the part in order.
abbrev pub in_part : {P : Type 0} → Searched P → ℕ → Bool
in_part searched = in_knot searched.knots.now.numbers searched.part

abbrev pub part_sides : {P : Type 0} → Searched P → List ℕ
part_sides searched = slice_index_or searched.knots.now.sides searched.part []

-- It can be searched: the parts are those of the circuit, the number is that of one of them, the
-- marks of each end have their place, and each side of the part has its form.
pub record IsSearched {P : Type 0} (net : Net) (searched : Searched P) : Type 0 where
  pub knots : AreKnots net searched.knots.now
  pub part : searched.part < knot_count searched.knots.now
  pub spots : AreSpots net searched.spots.now
  pub forms : AreNoted net (in_part searched) searched.forms.now
