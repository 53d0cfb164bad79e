-- What is done at the sides of the parts that are not flagged.
use Rattle.std.specs.Prelude.{ℕ, ◌<◌, ◌≡◌, Bool, true, false, List, slice_index, slice_index_or}
use Rattle.reo_net_base.specs.Net.{Net}
use Rattle.reo_net_base.specs.Sides.{side_count}
use Rattle.reo_net_laws.specs.Knots.{Knotted}

-- The part of a side.
abbrev pub part_of : Knotted → ℕ → ℕ
part_of knots s = slice_index knots.numbers s

-- Each side of the first n parts that is of none that is flagged is done, and those of parts that are flagged stay.
pub record AreDoneAt (net : Net) (knots : Knotted) (flags : List Bool) (n : ℕ) (Done Stays : ℕ → Type 0) : Type 0 where
  pub here : (s : ℕ) → s < side_count net → part_of knots s < n → slice_index_or flags (part_of knots s) false ≡ false → Done s
  pub others : (s : ℕ) → s < side_count net → slice_index_or flags (part_of knots s) false ≡ true → Stays s
