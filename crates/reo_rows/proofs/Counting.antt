-- How many flags of a table are set, when one is cleared.
use Rattle.std.proofs.Common.{◌≡◌, ℕ, zero, suc, ◌+◌, ◌<◌, Bool, true, false, cond, List, [], ◌∷◌, length, get_or, set, ap, ◌∙◌, arith}
use Rattle.std.proofs.lemmas.List.{get_or_default}
use Rattle.reo_rows.specs.RowFlags.{flag, row_set, count_set}

cleared_row : (row : List Bool) (p : ℕ) → p < length row → get_or row p false ≡ true → row_set (set row p false) + 1 ≡ row_set row
cleared_row [] p lt was = absurd (omega arith)
cleared_row (b ∷ bs) zero lt was = omega (arith, ap {B = ℕ} (λ (t : Bool). cond t 1 0) was)
cleared_row (b ∷ bs) (suc p) lt was = omega (arith, cleared_row bs p (omega arith) was)

replaced_row : (table : List (List Bool)) (i : ℕ) (row : List Bool) → i < length table → count_set (set table i row) + row_set (get_or table i []) ≡ count_set table + row_set row
replaced_row [] i row lt = absurd (omega arith)
replaced_row (r ∷ rs) zero row lt = omega arith
replaced_row (r ∷ rs) (suc i) row lt = omega (arith, replaced_row rs i row (omega arith))

-- One flag fewer is set.
pub cleared_count : (table : List (List Bool)) (i p : ℕ) (row : List Bool) → i < length table → row ≡ get_or table i row → p < length (get_or table i []) → flag table i p ≡ true
    → count_set (set table i (set row p false)) + 1 ≡ count_set table
cleared_count table i p row lt is p_in was =
    let here : row ≡ get_or table i [] = is ∙ get_or_default table i row [] lt in
    let one : row_set (set row p false) + 1 ≡ row_set row = cleared_row row p (omega (arith, ap (λ (r : List Bool). length r) here)) (ap (λ (r : List Bool). get_or r p false) here ∙ was) in
    omega (arith, one, replaced_row table i (set row p false) lt, ap row_set here)
