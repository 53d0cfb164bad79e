-- Where nothing is settled, what is kept is right.
use Rattle.std.proofs.Common.{◌≡◌, ◌∙◌, ℕ, zero, suc, Bool, true, false, List, get_or, replicate, refl, ap, sym, subst}
use Rattle.reo_net_base.specs.Net.{Net}
use Rattle.reo_net_base.specs.Sides.{side_count}
use Rattle.reo_net_laws.specs.Knots.{Knotted, knot_count}
use Rattle.reo_settling.specs.Plannings.{Kept, IsFresh, IsKept, HasSizes}

pub fresh_kept : (net : Net) (knots : Knotted) (turn sides parts : ℕ) (kept : Kept) → sides ≡ side_count net → parts ≡ knot_count knots → IsFresh sides parts kept → IsKept net knots turn kept
fresh_kept net knots turn sides parts kept e f is = record {
  sizes = subst (λ (n : ℕ). HasSizes n (knot_count knots) kept) e (subst (λ (n : ℕ). HasSizes sides n kept) f is.sizes);
  known = λ k lt settled.
      let none : get_or kept.settled k false ≡ false = ap (λ (xs : List Bool). get_or xs k false) is.none ∙ all_false parts k in
      absurd (let wrong : false ≡ true = sym none ∙ settled in cc);
}
  where
    all_false : (n k : ℕ) → get_or (replicate n false) k false ≡ false
    all_false zero k = refl
    all_false (suc n) zero = refl
    all_false (suc n) (suc k) = all_false n k
