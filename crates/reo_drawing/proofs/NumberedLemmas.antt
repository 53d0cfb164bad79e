-- One more text in a row.
use Rattle.std.proofs.Common.{arith, ◌≡◌, ◌∙◌, ℕ, ◌+◌, ◌<◌, zero, suc, List, [], ◌∷◌, ◌++◌, length, get_or, take, refl, sym, ap, append_assoc}
use Rattle.std.proofs.lemmas.List.{append-nil}
use Rattle.reo_drawing.specs.Numbered.{numbered}

more : {X : Type 0} (text : ℕ → X → List ℕ) (i n : ℕ) (xs : List X) (x : X) → n < length xs → x ≡ get_or xs n x
    → numbered text i (take (suc n) xs) ≡ numbered text i (take n xs) ++ text (i + n) x
more text i n [] x below at = absurd (omega arith)
more text i zero (y ∷ ys) x below at =
    let same : i ≡ i + 0 = omega arith in
    append-nil (text i y) ∙ ap (λ m. text m y) same ∙ ap (text (i + 0)) (sym at)
more text i (suc n) (y ∷ ys) x below at =
    let same : suc i + n ≡ i + suc n = omega arith in
    ap (λ bytes. text i y ++ bytes) (more text (suc i) n ys x (omega arith) at)
    ∙ sym (append_assoc (text i y) (numbered text (suc i) (take n ys)) (text (suc i + n) x))
    ∙ ap (λ m. (text i y ++ numbered text (suc i) (take n ys)) ++ text m x) same

-- The same behind what stood there before.
pub numbered_more : {X : Type 0} (text : ℕ → X → List ℕ) (n : ℕ) (xs : List X) (x : X) (before was now : List ℕ) → n < length xs → x ≡ get_or xs n x
    → was ≡ before ++ numbered text 0 (take n xs) → now ≡ was ++ text n x → now ≡ before ++ numbered text 0 (take (n + 1) xs)
numbered_more text n xs x before was now below at so_far added =
    let one : suc n ≡ n + 1 = omega arith in
    let none : n ≡ 0 + n = omega arith in
    added ∙ ap (λ bytes. bytes ++ text n x) so_far ∙ append_assoc before (numbered text 0 (take n xs)) (text n x)
    ∙ ap (λ m. before ++ (numbered text 0 (take n xs) ++ text m x)) none ∙ ap (λ bytes. before ++ bytes) (sym (more text 0 n xs x below at)) ∙ ap (λ m. before ++ numbered text 0 (take m xs)) one

-- What was appended in parts.
pub three : (t a b c : List ℕ) → ((t ++ a) ++ b) ++ c ≡ t ++ ((a ++ b) ++ c)
three t a b c = ap (λ bytes. bytes ++ c) (append_assoc t a b) ∙ append_assoc t (a ++ b) c

pub four : (t a b c d : List ℕ) → (((t ++ a) ++ b) ++ c) ++ d ≡ t ++ (((a ++ b) ++ c) ++ d)
four t a b c d = ap (λ bytes. bytes ++ d) (three t a b c) ∙ append_assoc t ((a ++ b) ++ c) d

-- What is read at a place does not hang on what is read past the end.
pub read : {X : Type 0} (xs : List X) (i : ℕ) (d : X) → i < length xs → get_or xs i d ≡ get_or xs i (get_or xs i d)
read {X} xs i d below = same xs i below where
  same : (ys : List X) (k : ℕ) → k < length ys → get_or ys k d ≡ get_or ys k (get_or xs i d)
  same [] k h = absurd (omega arith)
  same (y ∷ ys) zero h = refl
  same (y ∷ ys) (suc k) h = same ys k (omega arith)
