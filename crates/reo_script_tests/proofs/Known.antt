-- The ports of the tests have names of their own, and few symbols.
use Rattle.std.proofs.Common.{arith, ◌≡◌, ℕ, zero, suc, ◌+◌, ◌<◌, List, [], ◌∷◌, get_or, map, refl, ap}
use Rattle.std.specs.List.{All}
use Rattle.reo_values.specs.Valid.{AreDistinct}
use Rattle.reo_net_base.specs.declared.port.Port.{Port}
use Rattle.reo_rules.specs.literals.Items.{HasFewNames}
use Rattle.reo_script.specs.Places.{ArePortsOf}
use Rattle.reo_script_tests.specs.Known.{all_known}

abbrev names : List (List ℕ)
names = map (λ (p : Port). p.name) all_known

abbrev first : List ℕ → ℕ
first [] = 0
first (x ∷ xs) = x

first_at : (i : ℕ) → i < 4 → first (get_or names i []) ≡ 97 + i
first_at zero below = refl
first_at (suc zero) below = refl
first_at (suc (suc zero)) below = refl
first_at (suc (suc (suc zero))) below = refl
first_at (suc (suc (suc (suc i)))) below = absurd (omega arith)

distinct : AreDistinct names
distinct i j here there same =
    let left = first_at i here in
    let right = first_at j there in
    let alike = ap first same in
    omega (arith, left, right, alike)

few : All (λ (p : Port). HasFewNames p.kindred) all_known
few zero d below = tt
few (suc zero) d below = tt
few (suc (suc zero)) d below = tt
few (suc (suc (suc zero))) d below = tt
few (suc (suc (suc (suc i)))) d below = absurd (omega arith)

pub are_ports : ArePortsOf all_known
are_ports = record { distinct = distinct; few = few }
