-- The first difference of two keys.
use Rattle.std.specs.Prelude.{ℕ, ◌<◌, ◌≡◌, ◌↔◌, List, length, slice_index, slice_index_or}
use Rattle.std.specs.declared.cmp.Ordering.TheVariants.{Less}
use Rattle.reo_net_base.specs.First.{Position, order_by}

-- The number that a list of rows puts at a place.
abbrev pub number_at : Position → List ℕ → ℕ
number_at p rows = p.number (slice_index rows p.side)

-- The place of this number is the first where two keys differ, and the first key is smaller there.
pub record DiffersFirst (ps : List Position) (x y : List ℕ) (place : ℕ) : Type 0 where
  pub in_range : place < length ps
  pub before : (q : ℕ) (d : Position) → q < place
      → number_at (slice_index_or ps q d) x ≡ number_at (slice_index_or ps q d) y
  pub smaller : (d : Position)
      → number_at (slice_index_or ps place d) x < number_at (slice_index_or ps place d) y

-- One list of rows stands before another exactly where their keys differ and the first is smaller
-- at the first difference.
abbrev pub FirstDifferenceDecides : Type 0
FirstDifferenceDecides = (ps : List Position) (x y : List ℕ)
    → (order_by ps x y ≡ Less) ↔ ((place : ℕ) × DiffersFirst ps x y place)
