-- Lists cut at a place.
use Rattle.std.proofs.Common.{◌≡◌, ℕ, zero, suc, ◌<◌, List, [], ◌∷◌, ◌++◌, length, take, refl, sym, ap, arith}
use Rattle.std.specs.Prelude.{Some, slice_get, slice_index_or}

pub got_by : {X : Type 0} (xs : List X) (i : ℕ) (x : X) → i < length xs → x ≡ slice_index_or xs i x → slice_get xs i ≡ Some x
got_by [] i x lt is = absurd (omega arith)
got_by (y ∷ ys) zero x lt is = ap (λ z. Some z) (sym is)
got_by (y ∷ ys) (suc i) x lt is = got_by ys i x (omega arith) is

pub got_or : {X : Type 0} (xs : List X) (i : ℕ) (d : X) → i < length xs → slice_get xs i ≡ Some (slice_index_or xs i d)
got_or [] i d lt = absurd (omega arith)
got_or (y ∷ ys) zero d lt = refl
got_or (y ∷ ys) (suc i) d lt = got_or ys i d (omega arith)

pub take_one_more : {X : Type 0} (xs : List X) (i : ℕ) (x : X) → slice_get xs i ≡ Some x → take (suc i) xs ≡ take i xs ++ x ∷ []
take_one_more [] i x is = absurd (cc)
take_one_more (y ∷ ys) zero x is = let here : y ≡ x = cc in ap (λ z. z ∷ []) here
take_one_more (y ∷ ys) (suc i) x is = ap (λ zs. y ∷ zs) (take_one_more ys i x is)

pub taken : {X : Type 0} (xs : List X) (i : ℕ) (x : X) → slice_get xs i ≡ Some x → length (take i xs) ≡ i
taken [] i x is = absurd (cc)
taken (y ∷ ys) zero x is = refl
taken (y ∷ ys) (suc i) x is = ap suc (taken ys i x is)
