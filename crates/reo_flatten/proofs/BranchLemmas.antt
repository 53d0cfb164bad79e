-- Branches by their count.
use Rattle.std.proofs.Common.{arith, ◌≡◌, ◌∙◌, ℕ, ◌≤◌, Bool, true, false, nat_le, refl, ap}
use Rattle.std.proofs.Math.Bridge.{le_prop}
use Rattle.std.proofs.lemmas.Bool.{leb-true, leb-false}
use Rattle.reo_kinds.specs.declared.kind.Kind.{Kind}
use Rattle.reo_net_base.specs.declared.branches.Branches.{Branches}
use Rattle.reo_flat.specs.Flat.{branched_with, branched}

one_proof : (a b : ℕ) (p q : a ≤ b) → p ≡ q
one_proof a b p q = le_prop p q

same_branches : (b : Branches) (some : 2 ≤ b.count) (few : b.count ≤ 8192) → ◌≡◌ {A = Branches} b (record { count = b.count; some = some; few = few })
same_branches b some few = λ i. record { count = b.count; some = one_proof 2 b.count b.some some i; few = one_proof b.count 8192 b.few few i }

made_with : (made : Branches → Kind) (b : Branches) (s t : Bool) (some : nat_le 2 b.count ≡ s) (few : nat_le b.count 8192 ≡ t) → made b ≡ branched_with made b.count s t some few
made_with made b true true some few = ap made (same_branches b (leb-true 2 b.count some) (leb-true b.count 8192 few))
made_with made b false t some few =
    let small = leb-false 2 b.count some in
    let large = b.some in
    absurd (omega arith)
made_with made b true false some few =
    let large = leb-false b.count 8192 few in
    let small = b.few in
    absurd (omega arith)

pub branched_is : (made : Branches → Kind) (b : Branches) (n : ℕ) → b.count ≡ n → made b ≡ branched made n
branched_is made b n is = made_with made b _ _ refl refl ∙ ap (branched made) is
