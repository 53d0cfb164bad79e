-- Whether two items are equal is decided.
use Rattle.std.proofs.Common.{◌≡◌, inl, inr, Bool, true, false, refl, ap}
use Rattle.std.proofs.lemmas.Bool.{cases_eq}
use Rattle.std.specs.Ordering.{int_eq}
use Rattle.std.proofs.lemmas.Bool.Decides.{Decides-int_eq}
use Rattle.std.specs.Prelude.{bytes_eq, Decides}
use Rattle.std.proofs.lemmas.Slice.Eq.{bytes_eq-Decides}
use Rattle.reo_values.specs.declared.value.Value as value
use Rattle.reo_values.specs.declared.value.Value.{Value}
use Rattle.reo_values.specs.Pair.{left_of, right_of}
use Rattle.reo_weights.proofs.Decisions.{IsDecided, both_decided, same_decided}

-- What a test decides is decided.
by_test : {A : Type 0} → (b : Bool) → Decides b A → IsDecided A
by_test true d = inl (d.0 refl)
by_test false d = inr (λ h. let wrong : false ≡ true = d.1 h in cc)

truths_decided : (a b : Bool) → IsDecided (a ≡ b)
truths_decided true true = inl refl
truths_decided false false = inl refl
truths_decided true false = inr (λ e. cc)
truths_decided false true = inr (λ e. cc)

-- Two items are equal or not.
pub items_decided : (x y : Value) → IsDecided (x ≡ y)
items_decided value.Unit value.Unit = inl refl
items_decided (value.Bool a) (value.Bool b) = same_decided (λ e. ap value.Bool e) (λ e. cc) (truths_decided a b)
items_decided (value.Int a) (value.Int b) = same_decided (λ e. ap value.Int e) (λ e. cc) (by_test (int_eq a b) (Decides-int_eq a b))
items_decided (value.Sym a) (value.Sym b) = same_decided (λ e. ap value.Sym e) (λ e. cc) (cases_eq a b)
items_decided (value.Text a) (value.Text b) = same_decided (λ e. ap value.Text e) (λ e. cc) (by_test (bytes_eq a b) (bytes_eq-Decides a b))
items_decided (value.Pair' m (value.more_of-Couple a b value.end_of-Couple)) (value.Pair' n (value.more_of-Couple c d value.end_of-Couple)) =
    same_decided (λ h. let left = h.0 in let right = h.1 in (λ i. value.Pair' m (value.more_of-Couple (left i) (right i) value.end_of-Couple))) (λ e. (ap left_of e, ap right_of e))
    (both_decided (items_decided a c) (items_decided b d))
items_decided x y = inr (λ e. cc)
