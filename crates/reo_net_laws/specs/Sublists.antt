-- The rows of the sides of a set, as a list.
use Rattle.std.specs.Prelude.{ℕ, ◌≡◌, Bool, cond, List, [], ◌∷◌, ◌++◌, map, filter, slice_index}
use Rattle.std.specs.List.{range_with_len}
use Rattle.reo_net_base.specs.Sides.{side_count}
use Rattle.reo_net_base.specs.Net.{Net}
use Rattle.reo_net_base.specs.First.{key_at, positions}
use Rattle.reo_net_laws.specs.Keys.{within, class_of, leads_at}

-- The sides of a set, in order.
abbrev pub sides_in : Net → (ℕ → Bool) → List ℕ
sides_in net inside = filter inside (range_with_len 0 (side_count net))

-- The rows of some sides.
abbrev pub part_rows : List ℕ → List ℕ → List ℕ
part_rows sides rows = map (λ side. slice_index rows side) sides

-- The classes of the rows of some sides.
abbrev pub part_classes : Net → ℕ → List ℕ → List ℕ → List ℕ
part_classes net turn [] rows = []
part_classes net turn (k ∷ ks) [] = []
part_classes net turn (k ∷ ks) (r ∷ rs) = class_of net turn k r ∷ part_classes net turn ks rs

-- The classes of the rows of those of some sides that lead.
abbrev pub part_leading : Net → ℕ → List ℕ → List ℕ → List ℕ
part_leading net turn [] rows = []
part_leading net turn (k ∷ ks) [] = []
part_leading net turn (k ∷ ks) (r ∷ rs) =
    cond (leads_at net k) (class_of net turn k r ∷ part_leading net turn ks rs)
    (part_leading net turn ks rs)

-- What the rows of some sides are compared by: the classes of those of them that lead, then the
-- classes of all of them, and then the rows.
abbrev pub part_key : Net → ℕ → List ℕ → List ℕ → List ℕ
part_key net turn sides rows =
    part_leading net turn sides rows ++ (part_classes net turn sides rows ++ rows)

-- The key of the rows of a set is the key of the whole at the places of its sides.
abbrev pub PartKeys : Type 0
PartKeys = (net : Net) (turn : ℕ) (inside : ℕ → Bool) (rows : List ℕ)
    → part_key net turn (sides_in net inside) (part_rows (sides_in net inside) rows)
    ≡ key_at (within inside (positions net turn)) rows
