-- Names that stand once.
use Rattle.std.proofs.Common.{arith, ◌≡◌, ◌∙◌, ℕ, zero, suc, ◌<◌, ◌||◌, List, [], ◌∷◌, length, take, get_or, false, bytes_eq, refl, sym, ◌++◌, ap, cond}
use Rattle.std.proofs.lemmas.List.{length-take-le, get_or_default}
use Rattle.std.proofs.lemmas.Slice.Eq.{bytes_eq-Decides}
use Rattle.reo_values.specs.Valid.{AreDistinct}
use Rattle.reo_rules.specs.Lists.{has_name}
use Rattle.reo_rules.specs.Names.{with_name}
use Rattle.std.proofs.lemmas.Bool.{false_from_ne_true as no_test}

-- A name that stands at no place of a list is none of it.
pub no_such : (xs : List (List ℕ)) (name : List ℕ) → ((k : ℕ) → k < length xs → name ≡ get_or xs k [] → ⊥) → has_name xs name ≡ false
no_such [] name none = refl
no_such (x ∷ xs) name none =
    λ i. no_test (bytes_eq name x) (λ same. none 0 (omega arith) ((bytes_eq-Decides name x).0 same)) i || no_such xs name (λ k within. none (suc k) (omega arith)) i

pub in_front : {X : Type 0} (xs : List X) (i k : ℕ) (d : X) → k < i → get_or (take i xs) k d ≡ get_or xs k d
in_front [] zero k d below = absurd (omega arith)
in_front [] (suc i) k d below = refl
in_front (x ∷ xs) zero k d below = absurd (omega arith)
in_front (x ∷ xs) (suc i) zero d below = refl
in_front (x ∷ xs) (suc i) (suc k) d below = in_front xs i k d (omega arith)

-- Where no two names are one, a name is not among those before it.
pub new_name : (names : List (List ℕ)) (i : ℕ) (name : List ℕ) → AreDistinct names → i < length names → name ≡ get_or names i name → has_name (take i names) name ≡ false
new_name names i name distinct within is =
    let long : length (take i names) ≡ i = length-take-le i names (omega arith) in
    no_such (take i names) name (λ k below same.
    let before : k < i = omega arith in
    let twice = distinct k i (omega arith) within (sym (in_front names i k [] before) ∙ sym same ∙ is ∙ get_or_default names i name [] within) in
    absurd (omega arith))

-- A new name comes at the end.
pub noted_new : (names : List (List ℕ)) (name : List ℕ) → has_name names name ≡ false → with_name names name ≡ names ++ name ∷ []
noted_new names name new = ap (λ b. cond b names (names ++ name ∷ [])) new
