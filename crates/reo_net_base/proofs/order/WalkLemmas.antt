-- Walks.
use Rattle.std.proofs.Common.{◌≡◌, ◌≢◌, inl, inr, ℕ, zero, suc, ◌+◌, ◌<◌, Bool, true, false, List, [], ◌∷◌, ◌++◌, length, get_or, refl, sym, arith}
use Rattle.std.proofs.lemmas.Bool.{cases_eq}
use Rattle.reo_net_base.specs.order.Arrows.{Walk, Leads, OnCycle, AreFed, IsTopological}

module _ (from to : List ℕ) where
  pub walk_on : (s t u : ℕ) (js ks : List ℕ) → Walk from to s js t → Walk from to t ks u → Walk from to s (js ++ ks) u
  walk_on s t u [] ks w v = rw w v
  walk_on s t u (j ∷ js) ks w v = (w.0, w.1, walk_on (get_or to j 0) t u js ks w.2 v)

  pub leads_one : (j k : ℕ) → get_or from k 0 ≡ get_or to j 0 → Leads from to j k
  leads_one j k e = record { by = []; walk = sym e }

  pub leads_on : (j k i : ℕ) → k < length from → Leads from to j k → Leads from to k i → Leads from to j i
  leads_on j k i lt a b = record {
    by = a.by ++ k ∷ b.by;
    walk = walk_on (get_or to j 0) (get_or from k 0) (get_or from i 0) a.by (k ∷ b.by) a.walk (lt, refl, b.walk);
  }

  -- Along a walk to an arrow of the list the places fall.
  before : (order : List ℕ) → AreFed from to order → (js : List ℕ) (k j m : ℕ) → k < length from → Walk from to (get_or to k 0) js (get_or from j 0) → m < length order → get_or order m 0 ≡ j
      → (n : ℕ) × (n < m) × (get_or order n 0 ≡ k)
  before order fed [] k j m k_lt w lt at = fed m lt k k_lt (rw at w)
  before order fed (x ∷ xs) k j m k_lt w lt at =
      let x_at = before order fed xs x j m w.0 w.2 lt at in
      let x_lt = x_at.1 in
      let k_at = fed x_at.0 (omega arith) k k_lt (rw x_at.2 (sym w.1)) in
      let k_m = k_at.1 in
      (k_at.0, omega arith, k_at.2)

  no_place : (order : List ℕ) → AreFed from to order → (j : ℕ) → OnCycle from to j → (bound m : ℕ) → m < bound → m < length order → get_or order m 0 ≡ j → ⊥
  no_place order fed j on zero m h lt at = absurd (omega arith)
  no_place order fed j on (suc bound) m h lt at =
      let b = before order fed on.1.by j j m on.0 on.1.walk lt at in
      let n_lt = b.1 in
      no_place order fed j on bound b.0 (omega arith) (omega arith) b.2

  -- An arrow of the list is on no cycle, also where the list has not all arrows.
  pub fed_off_cycle : (order : List ℕ) → AreFed from to order → (m j : ℕ) → m < length order → get_or order m 0 ≡ j → OnCycle from to j → ⊥
  fed_off_cycle order fed m j lt at on = no_place order fed j on (m + 1) m (omega arith) lt at

  -- Where all arrows are in the list there is no cycle.
  pub order_no_cycle : (order : List ℕ) → IsTopological from to order → (j : ℕ) → OnCycle from to j → ⊥
  order_no_cycle order is j on = let at = is.each j on.0 in fed_off_cycle order is.fed at.0 j at.1 at.2 on

-- A walk against the arrows.
module _ (from to : List ℕ) (one_each : length to ≡ length from) where
  walk_back : (s t u : ℕ) (js ks : List ℕ) → Walk from to s js t → Walk to from s ks u → (ls : List ℕ) × Walk to from t ls u
  walk_back s t u [] ks w v = (ks, rw w at v)
  walk_back s t u (j ∷ js) ks w v = walk_back (get_or to j 0) t u js (j ∷ ks) w.2 (omega (arith, w.0), refl, rw w.1 v)

  -- A cycle is a cycle against the arrows too.
  pub on_cycle_back : (j : ℕ) → OnCycle from to j → OnCycle to from j
  on_cycle_back j on =
      let back = walk_back (get_or to j 0) (get_or from j 0) (get_or to j 0) on.1.by [] on.1.walk refl in
      (omega (arith, on.0), record { by = back.0; walk = back.1 })

-- A relation that leads on, and a set of numbers each of which is led to from inside: one of them leads to itself.
module _ (R : ℕ → ℕ → Type 0) (on : (i j k : ℕ) → R i j → R j k → R i k) (U : ℕ → Bool) where
  -- Without the last number, which is not in the set.
  without : (n : ℕ) → U n ≡ false → ((j : ℕ) → j < suc n → U j ≡ true → (k : ℕ) × (k < suc n) × (U k ≡ true) × (R k j))
      → (j : ℕ) → j < n → U j ≡ true → (k : ℕ) × (k < n) × (U k ≡ true) × (R k j)
  without n out fed j lt is =
      let f = fed j (omega arith) is in
      let f_lt = f.1 in
      let ne : f.0 ≢ n = (λ e. let t = rw e at f.2 in cc) in
      (f.0, omega arith, f.2, f.3)

  -- Past the last number, to which another one leads.
  past : (n k : ℕ) → k < n → U k ≡ true → R k n → ((j : ℕ) → j < suc n → U j ≡ true → (k : ℕ) × (k < suc n) × (U k ≡ true) × (R k j))
      → (j : ℕ) → j < n → U j ≡ true → (k : ℕ) × (k < n) × (U k ≡ true) × (R k j)
  past n k k_lt k_is r fed j lt is =
      let f = fed j (omega arith) is in
      let f_lt = f.1 in
      elim (cases_eq f.0 n) [
        | inl e ↦ (k, k_lt, k_is, on k n j r (rw e at f.3))
        | inr ne ↦ (f.0, omega arith, f.2, f.3)
      ]

  pub stuck : (n : ℕ) → ((j : ℕ) → j < n → U j ≡ true → (k : ℕ) × (k < n) × (U k ≡ true) × (R k j)) → (j : ℕ) → j < n → U j ≡ true → (i : ℕ) × (i < n) × (R i i)
  stuck zero fed j lt is = absurd (omega arith)
  stuck (suc n) fed j lt is =
      elim (U n) as (λ t. U n ≡ t → (i : ℕ) × (i < suc n) × (R i i)) [
        | false ↦ λ out.
            let ne : j ≢ n = (λ e. let t = rw e at is in cc) in
            let found = stuck n (without n out fed) j (omega arith) is in
            let found_lt = found.1 in
            (found.0, omega arith, found.2)
        | true ↦ λ inside.
            let f = fed n (omega arith) inside in
            let f_lt = f.1 in
            elim (cases_eq f.0 n) [
              | inl e ↦ (n, omega arith, rw e at f.3)
              | inr ne ↦
                  let found = stuck n (past n f.0 (omega arith) f.2 f.3 fed) f.0 (omega arith) f.2 in
                  let found_lt = found.1 in
                  (found.0, omega arith, found.2)
            ]
      ] refl
