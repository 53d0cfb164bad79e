-- Fewer live values, and what is owed for them.
use Rattle.std.proofs.Common.{◌≡◌, inl, inr, ℕ, zero, suc, ◌+◌, ◌*◌, ◌^◌, ◌<◌, ◌≤◌, ◌==◌, ◌&&◌, ◌||◌, not, List, [], ◌∷◌, false, length, map, Contains, ap, sym, ◌∙◌, subst, arith, mul-le-mul_right, lit<}
use Rattle.std.specs.List.{sum_by}
use Rattle.std.proofs.Math.Nat.{one-le-pow, pow-le-pow_right, pow-suc}
use Rattle.std.proofs.lemmas.Bool.{cases_eq, cases_Bool, and_parts}
use Rattle.std.proofs.lemmas.List.Sums.{sum_by-cons}
use Rattle.reo_net_base.specs.Net.{Net}
use Rattle.reo_joint_values.specs.declared.value.JointValue.{JointValue}
use Rattle.reo_joint_values.specs.Values.{Family, value_eq}
use Rattle.reo_refute_base.proofs.Narrowing.{value_same, same_value}
use Rattle.reo_refute_base.specs.Items.{Lists}
use Rattle.reo_refute_base.specs.Live.{values_of, live_at, without, alone}
use Rattle.reo_refute_base.specs.laws.Singles.{IsPartOf}
use Rattle.reo_refute_base.proofs.laws.Growing.{kept_fewer, kept_less, off_at, off_beside}
use Rattle.reo_refute_base.specs.measure.Owed.{live_count, owed_for, AreTwo, DropsLessen, SplitsLessen}

count_fewer : (lists : Lists) (now live : Family) → IsPartOf now live → (n : ℕ) → live_count lists now n ≤ live_count lists live n
count_fewer lists now live sub zero = omega arith
count_fewer lists now live sub (suc n) = omega (arith, count_fewer lists now live sub n, kept_fewer (now n) (live n) (values_of lists n) (sub n))

count_less : (lists : Lists) (now live : Family) → IsPartOf now live → (j : ℕ) → length (live_at lists now j) < length (live_at lists live j)
    → (n : ℕ) → j < n → live_count lists now n < live_count lists live n
count_less lists now live sub j less zero lt = absurd (omega (arith, lt))
count_less lists now live sub j less (suc n) lt =
    elim (cases_eq j n) [
      | inl same ↦ let here = subst (λ (k : ℕ). length (live_at lists now k) < length (live_at lists live k)) same less in omega (arith, here, count_fewer lists now live sub n)
      | inr other ↦ omega (arith, count_less lists now live sub j less n (omega (arith, lt, other)), kept_fewer (now n) (live n) (values_of lists n) (sub n))
    ]

module _ (net : Net) (lists : Lists) where
  drop_part : (live : Family) (j : ℕ) (v : JointValue) → IsPartOf (without live j v) live
  drop_part live j v i w h = (and_parts (live i w) (not ((i == j) && value_eq w v)) h).0

  alone_part : (live : Family) (j : ℕ) (v : JointValue) → IsPartOf (alone live j v) live
  alone_part live j v i w h = (and_parts (live i w) (not (i == j) || value_eq w v) h).0

  drop_less : (live : Family) (j : ℕ) → j < length net.joints → (v : JointValue) → Contains (live_at lists live j) v
      → live_count lists (without live j v) (length net.joints) < live_count lists live (length net.joints)
  drop_less live j lt v has =
      count_less lists (without live j v) live (drop_part live j v) j
      (kept_less (without live j v j) (live j) (values_of lists j) (drop_part live j v j) v has (off_at (live j v) j (value_eq v v) (value_same v))) (length net.joints) lt

  alone_less : (live : Family) (j : ℕ) → j < length net.joints → (u x : JointValue) → Contains (live_at lists live j) x → value_eq x u ≡ false
      → live_count lists (alone live j u) (length net.joints) < live_count lists live (length net.joints)
  alone_less live j lt u x has differ =
      count_less lists (alone live j u) live (alone_part live j u) j
      (kept_less (alone live j u j) (live j) (values_of lists j) (alone_part live j u j) x has (off_beside (live j x) j (value_eq x u) differ)) (length net.joints) lt

  held_less : (live : Family) (j : ℕ) → j < length net.joints → AreTwo lists live j → (u : JointValue) → live_count lists (alone live j u) (length net.joints) < live_count lists live (length net.joints)
  held_less live j lt d u =
      elim (cases_Bool (value_eq d.first u)) [
        | inr other ↦ alone_less live j lt u d.first d.has_first other
        | inl same ↦
            let is : value_eq d.second u ≡ false = ap (value_eq d.second) (sym (same_value d.first u same)) ∙ d.differ in
            alone_less live j lt u d.second d.has_second is
      ]

  -- One live value fewer, and at most one part in 261 is owed.
  power_less : (a b : ℕ) → a < b → 261 ^ a * 261 ≤ 261 ^ b
  power_less a b lt =
      let up : 261 ^ suc a ≤ 261 ^ b = pow-le-pow_right (lit< tt) (omega (arith, lt)) in
      subst (λ (n : ℕ). n ≤ 261 ^ b) (pow-suc 261 a) up

  pub drops : (live : Family) (j : ℕ) (v : JointValue) → j < length net.joints → Contains (live_at lists live j) v → owed_for net lists (without live j v) < owed_for net lists live
  drops live j v lt has =
      let a : ℕ = live_count lists (without live j v) (length net.joints) in
      let less = power_less a (live_count lists live (length net.joints)) (drop_less live j lt v has) in
      let some : 1 ≤ 261 ^ a = one-le-pow a 261 (lit< tt) in
      omega (arith, less, some)

  -- So many branches, each with at most one part in 261 of what was owed.
  all_less : (live : Family) (j whole : ℕ) → ((u : JointValue) → owed_for net lists (alone live j u) * 261 ≤ whole)
      → (vs : List JointValue) → sum_by (owed_for net lists) (map (alone live j) vs) * 261 ≤ length vs * whole
  all_less live j whole each [] = omega arith
  all_less live j whole each (v ∷ vs) =
      let first : sum_by (owed_for net lists) (map (alone live j) (v ∷ vs)) ≡ owed_for net lists (alone live j v) + sum_by (owed_for net lists) (map (alone live j) vs) =
      sum_by-cons (owed_for net lists) (alone live j v) (map (alone live j) vs) in
      subst (λ (n : ℕ). n * 261 ≤ suc (length vs) * whole) (sym first) (scaled (owed_for net lists (alone live j v)) (sum_by (owed_for net lists) (map (alone live j) vs)) (length vs) whole (each v) (all_less live j whole each vs))
    where
      scaled : (a s n w : ℕ) → a * 261 ≤ w → s * 261 ≤ n * w → (a + s) * 261 ≤ suc n * w
      scaled a s n w h k = let more : suc n * w ≡ n * w + w = omega arith in omega (arith, h, k, more)

  below_whole : (s n w : ℕ) → n ≤ 260 → 1 ≤ w → s * 261 ≤ n * w → s < w
  below_whole s n w few some h =
      let most : n * w ≤ 260 * w = mul-le-mul_right w few in
      omega (arith, h, most, some)

  pub splits : (live : Family) (j : ℕ) → j < length net.joints → length (live_at lists live j) ≤ 260 → AreTwo lists live j
      → sum_by (owed_for net lists) (map (alone live j) (live_at lists live j)) < owed_for net lists live
  splits live j lt few two =
      let c : ℕ = live_count lists live (length net.joints) in
      below_whole (sum_by (owed_for net lists) (map (alone live j) (live_at lists live j))) (length (live_at lists live j)) (owed_for net lists live) few (one-le-pow c 261 (lit< tt))
      (all_less live j (owed_for net lists live) (λ u. power_less (live_count lists (alone live j u) (length net.joints)) c (held_less live j lt two u)) (live_at lists live j))

pub drops_lessen : DropsLessen
drops_lessen net lists live j v lt has = drops net lists live j v lt has

pub splits_lessen : SplitsLessen
splits_lessen net lists live j lt few two = splits net lists live j lt few two
