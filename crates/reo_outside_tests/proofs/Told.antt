-- The ports of the tests are such as traces and proof texts ask for.
use Rattle.std.proofs.Common.{arith, rules, ◌≡◌, inr, ℕ, zero, suc, ◌+◌, ◌<◌, ◌≤◌, List, [], ◌∷◌, get_or, map, refl, ap}
use Rattle.std.specs.List.{All}
use Rattle.reo_values.specs.Names.{IsName}
use Rattle.reo_values.specs.Valid.{AreDistinct, IsValid}
use Rattle.reo_net_base.specs.declared.port.Port.{Port}
use Rattle.reo_trace_reader.specs.texts.Lines.{AreTold}
use Rattle.reo_outside_tests.specs.Told.{all_told}

abbrev names : List (List ℕ)
names = map (λ (p : Port). p.name) all_told

abbrev first : List ℕ → ℕ
first [] = 0
first (x ∷ xs) = x

first_at : (i : ℕ) → i < 3 → first (get_or names i []) ≡ 97 + i
first_at zero below = refl
first_at (suc zero) below = refl
first_at (suc (suc zero)) below = refl
first_at (suc (suc (suc i))) below = absurd (omega arith)

distinct : AreDistinct names
distinct i j here there same =
    let left = first_at i here in
    let right = first_at j there in
    let alike = ap first same in
    omega (arith, left, right, alike)

named : (n : ℕ) → 97 ≤ n → n ≤ 122 → IsName (n ∷ [])
named n low high = (inr (inr (low, high)), λ k d lt. absurd (omega arith))

are_names : All (λ (p : Port). IsName p.name) all_told
are_names zero d below = named 97 (omega arith) (omega arith)
are_names (suc zero) d below = named 98 (omega arith) (omega arith)
are_names (suc (suc zero)) d below = named 99 (omega arith) (omega arith)
are_names (suc (suc (suc i))) d below = absurd (omega arith)

are_valid : All (λ (p : Port). IsValid p.kindred) all_told
are_valid zero d below = search rules
are_valid (suc zero) d below = search rules
are_valid (suc (suc zero)) d below = tt
are_valid (suc (suc (suc i))) d below = absurd (omega arith)

pub are_told : AreTold all_told
are_told = record { names = are_names; distinct = distinct; types = are_valid }
