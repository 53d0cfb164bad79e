-- Texts of numbers in a row, one more.
use Rattle.std.proofs.Common.{arith, ◌≡◌, ◌∙◌, ℕ, ◌+◌, zero, suc, List, ◌++◌, sym, ap, append_assoc, append-nil}
use Rattle.std.specs.List.{flat_map, range_with_len}

pub range_more : (f : ℕ → List ℕ) (a n k : ℕ) → k ≡ a + n → flat_map f (range_with_len a (suc n)) ≡ flat_map f (range_with_len a n) ++ f k
range_more f a zero k e = append-nil (f a) ∙ ap f (omega arith)
range_more f a (suc n) k e =
    ap (λ l. f a ++ l) (range_more f (a + 1) n k (omega arith)) ∙ sym (append_assoc (f a) (flat_map f (range_with_len (a + 1) n)) (f k))

-- A text that was so far these, and that of one more behind it.
pub text_more : (f : ℕ → List ℕ) (a n m k : ℕ) (start before after : List ℕ) → k ≡ a + n → m ≡ suc n
    → before ≡ start ++ flat_map f (range_with_len a n) → after ≡ before ++ f k → after ≡ start ++ flat_map f (range_with_len a m)
text_more f a n m k start before after e s b i =
    i ∙ ap (λ l. l ++ f k) b ∙ append_assoc start (flat_map f (range_with_len a n)) (f k) ∙ ap (λ l. start ++ l) (sym (range_more f a n k e))
    ∙ ap (λ j. start ++ flat_map f (range_with_len a j)) (sym s)
