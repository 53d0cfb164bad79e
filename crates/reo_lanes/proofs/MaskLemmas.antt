-- What the lanes of a comparison of marks say of each pair.
use Rattle.std.proofs.Common.{◌≡◌, ℕ, ◌-◌, eqb, cond, Bool, true, false, not, ◌&&◌, ◌||◌, List, [], ◌∷◌, map, length, replicate, refl, ap, ap₂, ◌∙◌}
use lib.Bits.{bit_and, bit_or}
use lib.Lanes.{zip2, top}
use Rattle.reo_lanes.specs.Lanes.{is_broken}

-- A lane of a mask.
abbrev pub flag : Bool → ℕ
flag b = cond b 255 0

-- Both lanes are set.
both-flags : (a b : Bool) → bit_and (flag a) (flag b) ≡ flag (a && b)
both-flags true true = refl
both-flags true false = refl
both-flags false true = refl
both-flags false false = refl

-- At least one lane is set.
one-flag : (a b : Bool) → bit_or (flag a) (flag b) ≡ flag (a || b)
one-flag true true = refl
one-flag true false = refl
one-flag false true = refl
one-flag false false = refl

-- The lane is not set.
not-flag : (a : Bool) → 255 - flag a ≡ flag (not a)
not-flag true = refl
not-flag false = refl

-- The top bit tells whether a lane is set.
top-flag : (a : Bool) → top 7 (flag a) ≡ a
top-flag true = refl
top-flag false = refl

-- One lane, by whether its two bytes flow (a, b), jam (c, d) and give a reason (e, f).
lane : (a b c d e f : Bool)
    → top 7 (255 - bit_or (bit_and (flag a) (flag b)) (bit_or (bit_and (flag c) (flag d)) (bit_and (bit_or (flag e) (flag f)) (255 - bit_or (bit_or (flag a) (flag b)) (bit_or (flag c) (flag d))))))
    ≡ not ((a && b) || ((c && d) || ((e || f) && not ((a || b) || (c || d)))))
lane a b c d e f =
    let moving = ap₂ bit_or (one-flag a b) (one-flag c d) ∙ one-flag (a || b) (c || d) in
    let still = ap (λ n. 255 - n) moving ∙ not-flag ((a || b) || (c || d)) in
    let reasoned = ap₂ bit_and (one-flag e f) still ∙ both-flags (e || f) (not ((a || b) || (c || d))) in
    let other = ap₂ bit_or (both-flags c d) reasoned ∙ one-flag (c && d) ((e || f) && not ((a || b) || (c || d))) in
    let matched = ap₂ bit_or (both-flags a b) other ∙ one-flag (a && b) ((c && d) || ((e || f) && not ((a || b) || (c || d)))) in
    ap (λ n. top 7 (255 - n)) matched ∙ ap (top 7) (not-flag _) ∙ top-flag _

-- The lanes whose byte is the mark.
abbrev pub is_mark : ℕ → ℕ → List ℕ → List ℕ
is_mark n mark xs = zip2 (λ a b. flag (eqb a b)) xs (replicate n mark)

-- The lanes that the code computes of n pairs.
abbrev pub computed : ℕ → List ℕ → List ℕ → List Bool
computed n xs ys =
    map (top 7) (map (λ a. 255 - a) (zip2 bit_or (zip2 bit_and (is_mark n 1 xs) (is_mark n 1 ys)) (zip2 bit_or (zip2 bit_and (is_mark n 8 xs) (is_mark n 8 ys))
    (zip2 bit_and (zip2 bit_or (is_mark n 2 xs) (is_mark n 2 ys))
    (map (λ a. 255 - a) (zip2 bit_or (zip2 bit_or (is_mark n 1 xs) (is_mark n 1 ys)) (zip2 bit_or (is_mark n 8 xs) (is_mark n 8 ys))))))))

-- They tell which pairs do not match.
pub computed_is : (xs ys : List ℕ) → computed (length xs) xs ys ≡ zip2 is_broken xs ys
computed_is [] ys = refl
computed_is (x ∷ xs) [] = refl
computed_is (x ∷ xs) (y ∷ ys) = ap₂ (λ b bs. b ∷ bs) (lane (eqb x 1) (eqb y 1) (eqb x 8) (eqb y 8) (eqb x 2) (eqb y 2)) (computed_is xs ys)
