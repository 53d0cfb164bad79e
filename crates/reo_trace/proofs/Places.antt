-- Rows by the places of their sides, and lists made place by place.
use Rattle.std.proofs.Common.{◌≡◌, ◌∙◌, ℕ, ◌+◌, ◌<◌, List, [], ◌∷◌, ◌++◌, ap, length, map, arith}
use Rattle.std.specs.List.{range_with_len}
use Rattle.std.proofs.lemmas.List.FromFn.{map-range_with_len_more}
use Rattle.reo_net_base.specs.Colouring.{AreRows}
use Rattle.reo_net_base.specs.Net.{Net, all_sides, behaviour_at, first_side}
use Rattle.reo_net_laws.proofs.Sides.{rows_length, side_in}

-- there is a row for each side of each primitive
pub row_in : (net : Net) (rows : List ℕ) → AreRows (all_sides net.primitives) rows → (i side : ℕ) → i < length net.primitives → side < (behaviour_at net.primitives i).sides
    → first_side net.primitives i + side < length rows
row_in net rows are i side i_in side_in_it = omega (arith, rows_length (all_sides net.primitives) rows are, side_in net.primitives i side i_in side_in_it)

-- one more element
pub made-more : {X : Type 0} (f : ℕ → X) (n : ℕ) (old now : List X) (x : X) → old ≡ map f (range_with_len 0 n) → x ≡ f n → now ≡ old ++ x ∷ []
    → now ≡ map f (range_with_len 0 (n + 1))
made-more {X} f n old now x e at more =
    rw (map-range_with_len_more f 0 n n (omega arith)) (more ∙ ap (λ (ys : List X). ys ++ x ∷ []) e ∙ ap (λ (y : X). map f (range_with_len 0 n) ++ y ∷ []) at)
