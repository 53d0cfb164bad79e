-- Texts that are cut at a byte that stands once.
use Rattle.std.proofs.Common.{arith, ◌≡◌, ℕ, ◌+◌, ◌%◌, ◌<◌, ◌^◌, List, [], ◌∷◌, ◌++◌, drop, map, refl, sym, ap, decimal}
use Rattle.std.specs.List.{AllByRecursion}
use Rattle.std.proofs.lemmas.List.{append_assoc}
use Rattle.std.proofs.lemmas.Fmt.{decimal_by_steps, decimal_injective}

-- The byte does not stand in the text.
abbrev pub Free : ℕ → List ℕ → Type 0
Free s bs = AllByRecursion (λ b. b ≡ s → ⊥) bs

abbrev first_byte : List ℕ → ℕ
first_byte [] = 0
first_byte (b ∷ bs) = b

-- A text is cut at the byte in one way.
pub cut_once : (s : ℕ) (a b x y : List ℕ) → Free s a → Free s b → a ++ s ∷ x ≡ b ++ s ∷ y → (a ≡ b) × (x ≡ y)
cut_once s [] [] x y fa fb e = (refl, ap (λ l. drop 1 l) e)
cut_once s [] (d ∷ ds) x y fa fb e = absurd (fb.0 (sym (ap first_byte e)))
cut_once s (c ∷ cs) [] x y fa fb e = absurd (fa.0 (ap first_byte e))
cut_once s (c ∷ cs) (d ∷ ds) x y fa fb e =
    let more = cut_once s cs ds x y fa.1 fb.1 (ap (λ l. drop 1 l) e) in
    ((λ i. first_byte (e i) ∷ more.0 i), more.1)

-- A text without the byte is not cut at it.
pub uncut : (s : ℕ) (n a x : List ℕ) → Free s n → n ≡ a ++ s ∷ x → ⊥
uncut s [] [] x free e = cc
uncut s [] (c ∷ cs) x free e = cc
uncut s (b ∷ bs) [] x free e = free.0 (ap first_byte e)
uncut s (b ∷ bs) (c ∷ cs) x free e = uncut s bs cs x free.1 (ap (λ l. drop 1 l) e)

free_append : (s : ℕ) (xs ys : List ℕ) → Free s xs → Free s ys → Free s (xs ++ ys)
free_append s [] ys a b = b
free_append s (x ∷ xs) ys a b = (a.0, free_append s xs ys a.1 b)

digit_free : (d : ℕ) → d < 10 → 48 + d ≡ 46 → ⊥
digit_free d below is = omega arith

-- A number has no dot.
pub decimal_free : (n : ℕ) → n < 2 ^ 64 → Free 46 (decimal n)
decimal_free n h =
    decimal_by_steps (λ m ds. Free 46 ds)
    (λ m below. (digit_free m below, tt))
    (λ m ds l w. free_append 46 ds ((48 + m % 10) ∷ []) w (digit_free (m % 10) (omega arith), tt))
    n h

-- Numbers that stand before a dot.
pub number_once : (j k : ℕ) (x y : List ℕ) → j < 2 ^ 64 → k < 2 ^ 64 → decimal j ++ 46 ∷ x ≡ decimal k ++ 46 ∷ y → j ≡ k
number_once j k x y hj hk e = decimal_injective j k hj hk (cut_once 46 (decimal j) (decimal k) x y (decimal_free j hj) (decimal_free k hk) e).0

-- What stands behind one text.
pub behind : (p a b : List ℕ) → p ++ a ≡ p ++ b → a ≡ b
behind [] a b e = e
behind (x ∷ xs) a b e = behind xs a b (ap (λ l. drop 1 l) e)

pub mapped_twice : (p q : List ℕ) (ns : List (List ℕ)) → map (λ n. p ++ n) (map (λ n. q ++ n) ns) ≡ map (λ n. (p ++ q) ++ n) ns
mapped_twice p q [] = refl
mapped_twice p q (n ∷ ns) = λ i. sym (append_assoc p q n) i ∷ mapped_twice p q ns i
