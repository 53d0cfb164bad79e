-- Lists of a table, with one more.
use Rattle.std.proofs.Common.{arith, ◌≡◌, ◌∙◌, ℕ, ◌+◌, ◌<◌, ◌≤◌, zero, suc, List, [], ◌∷◌, ◌++◌, length, get_or, take, max, refl, sym, ap, append_assoc}
use Rattle.std.specs.List.{flat_map, range_with_len}
use Rattle.std.proofs.lemmas.Grind.{flat_map-append}
use Rattle.std.proofs.lemmas.List.{append-nil, take_more}
use Rattle.reo_values.proofs.Naturals.{range_more}
use Rattle.reo_draw_rounds.specs.Mapped.{mapped}
use Rattle.reo_draw_rounds.specs.Tables.{width_of, row_text, rows_text}

-- The width with one more cell.
width_behind : (cells : List (List ℕ)) (cell : List ℕ) → width_of (cells ++ cell ∷ []) ≡ max (length cell) (width_of cells)
width_behind [] cell = refl
width_behind (c ∷ cells) cell = let rest = width_behind cells cell in omega (arith, rest)

pub width_more : (column : List (List ℕ)) (i : ℕ) (cell : List ℕ) → i < length column → cell ≡ get_or column i cell → max (length cell) (width_of (take i column)) ≡ width_of (take (i + 1) column)
width_more column i cell below at =
    sym (ap width_of (take_more column i cell below) ∙ width_behind (take i column) (get_or column i cell) ∙ ap (λ (c : List ℕ). max (length c) (width_of (take i column))) (sym at))

-- The lines of one more row.
pub rows_more : (columns : List (List (List ℕ))) (n : ℕ) (before was now : List ℕ) → was ≡ before ++ rows_text columns n → now ≡ was ++ row_text columns n
    → now ≡ before ++ rows_text columns (n + 1)
rows_more columns n before was now so_far added =
    let one : suc n ≡ n + 1 = omega arith in
    let none : n ≡ 0 + n = omega arith in
    added ∙ ap (λ bytes. bytes ++ row_text columns n) so_far ∙ append_assoc before (rows_text columns n) (row_text columns n)
    ∙ ap (λ bytes. before ++ bytes)
    (ap (λ bytes. rows_text columns n ++ bytes) (sym (append-nil (row_text columns n))) ∙ sym (flat_map-append (row_text columns) (range_with_len 0 n) (n ∷ [])) ∙ ap (λ m. flat_map (row_text columns) (range_with_len 0 n ++ m ∷ [])) none ∙ ap (flat_map (row_text columns)) (sym (range_more 0 n)))
    ∙ ap (λ m. before ++ rows_text columns m) one

mapped_behind : {X Y : Type 0} (f : ℕ → X → Y) (i : ℕ) (xs : List X) (x : X) → mapped f i (xs ++ x ∷ []) ≡ mapped f i xs ++ f (i + length xs) x ∷ []
mapped_behind f i [] x = let same : i ≡ i + 0 = omega arith in ap (λ m. f m x ∷ []) same
mapped_behind f i (y ∷ xs) x =
    let same : suc i + length xs ≡ i + suc (length xs) = omega arith in
    ap (λ ys. f i y ∷ ys) (mapped_behind f (suc i) xs x ∙ ap (λ m. mapped f (suc i) xs ++ f m x ∷ []) same)

length_taken : {X : Type 0} (xs : List X) (i : ℕ) → i ≤ length xs → length (take i xs) ≡ i
length_taken xs zero h = refl
length_taken [] (suc i) h = absurd (omega arith)
length_taken (x ∷ xs) (suc i) h = ap suc (length_taken xs i (omega arith))

-- What is made of one more.
pub mapped_more : {X Y : Type 0} (f : ℕ → X → Y) (xs : List X) (i : ℕ) (x : X) → i < length xs → x ≡ get_or xs i x → mapped f 0 (take (i + 1) xs) ≡ mapped f 0 (take i xs) ++ f i x ∷ []
mapped_more f xs i x below at =
    let long = length_taken xs i (omega arith) in
    let place : 0 + length (take i xs) ≡ i = omega (arith, long) in
    ap (mapped f 0) (take_more xs i x below ∙ ap (λ y. take i xs ++ y ∷ []) (sym at)) ∙ mapped_behind f 0 (take i xs) x ∙ ap (λ m. mapped f 0 (take i xs) ++ f m x ∷ []) place
