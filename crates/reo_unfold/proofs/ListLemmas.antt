-- Lists made item by item.
use Rattle.std.proofs.Common.{arith, ◌≡◌, ◌∙◌, ℕ, zero, suc, ◌+◌, ◌-◌, ◌<◌, ◌≤◌, List, [], ◌∷◌, ◌++◌, length, take, get_or, refl, sym, ap}
use Rattle.std.specs.Prelude.{slice_get}
use Rattle.std.proofs.lemmas.List.{append-nil, append_assoc, take_more}
use Rattle.reo_unfold.proofs.Sequences.{left_none}
use Rattle.reo_rules.specs.Lists.{each_after}
use Rattle.reo_unfold.proofs.AfterLemmas.{right_none}

-- The next item of a list.
pub take_next : {X : Type 0} (xs : List X) (i : ℕ) (x : X) → i < length xs → x ≡ get_or xs i x → take (i + 1) xs ≡ take i xs ++ x ∷ []
take_next xs i x within at = take_more xs i x within ∙ ap (λ v. take i xs ++ v ∷ []) (sym at)

module _ {X Y : Type 0} (f : List X → X → List Y) where
  -- What an item comes to, where all come to nothing.
  pub each_none : (b xs : List X) (i : ℕ) (x : X) → i < length xs → x ≡ get_or xs i x → each_after f b xs ≡ [] → f (b ++ take i xs) x ≡ []
  each_none b [] i x within at none = absurd (omega arith)
  each_none b (y ∷ ys) zero x within at none = ap (λ c. f c x) (append-nil b) ∙ ap (f b) at ∙ left_none (f b y) _ none
  each_none b (y ∷ ys) (suc i) x within at none =
      sym (ap (λ c. f c x) (append_assoc b (y ∷ []) (take i ys))) ∙ each_none (b ++ y ∷ []) ys i x (omega arith) at (right_none (f b y) _ none)

  pub each_after-append : (b xs ys : List X) → each_after f b (xs ++ ys) ≡ each_after f b xs ++ each_after f (b ++ xs) ys
  each_after-append b [] ys = ap (λ c. each_after f c ys) (sym (append-nil b))
  each_after-append b (x ∷ xs) ys =
      ap (λ zs. f b x ++ zs) (each_after-append (b ++ x ∷ []) xs ys ∙ ap (λ c. each_after f (b ++ x ∷ []) xs ++ each_after f c ys) (append_assoc b (x ∷ []) xs))
      ∙ sym (append_assoc (f b x) (each_after f (b ++ x ∷ []) xs) (each_after f (b ++ x ∷ xs) ys))

  -- One item more.
  pub each_after-next : (xs : List X) (x : X) → each_after f [] (xs ++ x ∷ []) ≡ each_after f [] xs ++ f xs x
  each_after-next xs x = each_after-append [] xs (x ∷ []) ∙ ap (λ ys. each_after f [] xs ++ ys) (append-nil (f xs x))

  pub each_after-more : (xs : List X) (i : ℕ) (x : X) → i < length xs → x ≡ get_or xs i x → each_after f [] (take (i + 1) xs) ≡ each_after f [] (take i xs) ++ f (take i xs) x
  each_after-more xs i x within at = ap (each_after f []) (take_next xs i x within at) ∙ each_after-next (take i xs) x

-- What stands in two lists one behind the other.
pub slice_get-left : {X : Type 0} (xs ys : List X) (n : ℕ) → n < length xs → slice_get (xs ++ ys) n ≡ slice_get xs n
slice_get-left [] ys n within = absurd (omega arith)
slice_get-left (x ∷ xs) ys zero within = refl
slice_get-left (x ∷ xs) ys (suc n) within = slice_get-left xs ys n (omega arith)

up : {X : Type 0} (xs ys : List X) (n : ℕ) → slice_get (xs ++ ys) (length xs + n) ≡ slice_get ys n
up [] ys n =
    let same : 0 + n ≡ n = omega arith in
    ap (slice_get ys) same
up (x ∷ xs) ys n =
    let same : length (x ∷ xs) + n ≡ suc (length xs + n) = omega arith in
    ap (slice_get (x ∷ (xs ++ ys))) same ∙ up xs ys n

pub slice_get-right : {X : Type 0} (xs ys : List X) (n : ℕ) → length xs ≤ n → slice_get (xs ++ ys) n ≡ slice_get ys (n - length xs)
slice_get-right xs ys n late =
    let same : n ≡ length xs + (n - length xs) = omega arith in
    ap (slice_get (xs ++ ys)) same ∙ up xs ys (n - length xs)
