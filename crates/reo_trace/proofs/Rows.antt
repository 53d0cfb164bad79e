-- One more text in a row.
use Rattle.std.proofs.Common.{◌≡◌, ◌∙◌, ℕ, ◌+◌, zero, suc, ◌<◌, List, [], ◌∷◌, ◌++◌, ap, sym, refl, length, get_or, take, map, arith, append_assoc, add-one}
use Rattle.std.specs.List.{range_with_len}
use Rattle.std.proofs.lemmas.List.FromFn.{length-map-range_with_len, map-range_with_len_more}
use Rattle.reo_trace.specs.Spaced.{spaced, gap}

-- the first so many and the next one
spaced-take : {X : Type 0} (text : X → List ℕ) (xs : List X) (place : ℕ) (d : X) → place < length xs
    → spaced text (take (suc place) xs) ≡ spaced text (take place xs) ++ (gap place ++ text (get_or xs place d))
spaced-take text [] place d h = absurd (omega arith)
spaced-take text (x ∷ xs) zero d h = refl
spaced-take text (x ∷ []) (suc place) d h = absurd (omega arith)
spaced-take text (x ∷ y ∷ ys) (suc zero) d h = refl
spaced-take text (x ∷ y ∷ ys) (suc (suc place)) d h =
    ap (λ z. text x ++ (32 ∷ z)) (spaced-take text (y ∷ ys) (suc place) d (omega arith)) ∙ sym (append_assoc (text x) (32 ∷ spaced text (y ∷ take place ys)) (32 ∷ text (get_or ys place d)))

-- the same, after what stood there before
pub spaced-more : {X : Type 0} (text : X → List ℕ) (xs : List X) (place : ℕ) (d : X) (before was mid now : List ℕ) → place < length xs
    → was ≡ before ++ spaced text (take place xs) → mid ≡ was ++ gap place → now ≡ mid ++ text (get_or xs place d)
    → now ≡ before ++ spaced text (take (place + 1) xs)
spaced-more text xs place d before was mid now within e f g =
    rw (add-one, spaced-take text xs place d within)
    (g ∙ ap (λ z. z ++ text (get_or xs place d)) (f ∙ ap (λ z. z ++ gap place) e) ∙ append_assoc (before ++ spaced text (take place xs)) (gap place) (text (get_or xs place d))
    ∙ append_assoc before (spaced text (take place xs)) (gap place ++ text (get_or xs place d)))

-- one more text at the end
spaced-last : {X : Type 0} (text : X → List ℕ) (xs : List X) (x : X) → spaced text (xs ++ x ∷ []) ≡ spaced text xs ++ (gap (length xs) ++ text x)
spaced-last text [] x = refl
spaced-last text (y ∷ []) x = refl
spaced-last text (y ∷ z ∷ zs) x = ap (λ w. text y ++ (32 ∷ w)) (spaced-last text (z ∷ zs) x) ∙ sym (append_assoc (text y) (32 ∷ spaced text (z ∷ zs)) (32 ∷ text x))

-- the texts of what stands at the first places, and the next one
pub spaced-places : {X : Type 0} (text : X → List ℕ) (f : ℕ → X) (n : ℕ) (x : X) (before was mid now : List ℕ) → x ≡ f n
    → was ≡ before ++ spaced text (map f (range_with_len 0 n)) → mid ≡ was ++ gap n → now ≡ mid ++ text x
    → now ≡ before ++ spaced text (map f (range_with_len 0 (n + 1)))
spaced-places {X} text f n x before was mid now at e g h =
    let xs : List X = map f (range_with_len 0 n) in
    let count : length xs ≡ n = length-map-range_with_len f 0 n in
    let last : spaced text (xs ++ f n ∷ []) ≡ spaced text xs ++ (gap n ++ text (f n)) = spaced-last text xs (f n) ∙ ap (λ (k : ℕ). spaced text xs ++ (gap k ++ text (f n))) count in
    h ∙ ap (λ z. z ++ text x) (g ∙ ap (λ z. z ++ gap n) e) ∙ ap (λ y. ((before ++ spaced text xs) ++ gap n) ++ text y) at
    ∙ append_assoc (before ++ spaced text xs) (gap n) (text (f n)) ∙ append_assoc before (spaced text xs) (gap n ++ text (f n))
    ∙ ap (λ z. before ++ z) (sym last) ∙ ap (λ (ys : List X). before ++ spaced text ys) (sym (map-range_with_len_more f 0 n n (omega arith)))
