-- An order of all arrows, or a cycle.
use Rattle.std.proofs.Common.{◌≡◌, ◌⊎◌, inl, inr, ℕ, zero, suc, ◌+◌, ◌<◌, ◌≤◌, Bool, true, false, not, List, [], ◌∷◌, ◌++◌, length, get_or, set, replicate, cond, refl, sym, ◌∙◌, arith, below_more}
use Rattle.std.proofs.lemmas.Bool.{not-true, cases_lt, cases_eq}
use Rattle.std.proofs.Math.Seq.{get_or-append_seam}
use Rattle.std.proofs.lemmas.List.{length-append, length-replicate, get_or-replicate, get_or_append_left, get_or_past}
use Rattle.std.proofs.lemmas.List.Folds.{sum_by-replicate}
use Rattle.reo_net_base.specs.order.Arrows.{Leads, HasCycle, AreFed, IsTopological, OrderExists}
use Rattle.reo_net_base.specs.order.Queue.{IsQueue}
use Rattle.reo_net_base.proofs.order.QueueLemmas.{queue_push}
use Rattle.reo_net_base.proofs.order.WalkLemmas.{leads_one, leads_on, stuck}

module _ (from to : List ℕ) where
  -- An arrow that is not placed, and all that feed it are.
  record IsReady (placed : List Bool) (j : ℕ) : Type 0 where
    pub in_range : j < length from
    pub free : get_or placed j false ≡ false
    pub fed : (k : ℕ) → k < length from → get_or to k 0 ≡ get_or from j 0 → get_or placed k false ≡ true

  -- An arrow that is not placed and feeds another.
  record IsFedBy (placed : List Bool) (j k : ℕ) : Type 0 where
    pub in_range : k < length from
    pub free : get_or placed k false ≡ false
    pub feeds : get_or to k 0 ≡ get_or from j 0

  -- A list with one more arrow, each behind those that feed it.
  record IsLonger (order : List ℕ) : Type 0 where
    pub longer : List ℕ
    pub placed : List Bool
    pub queue : IsQueue (length from) longer placed
    pub fed : AreFed from to longer
    pub one_more : length longer ≡ length order + 1

  feeder : (placed : List Bool) (j n : ℕ) → n ≤ length from → ((k : ℕ) × IsFedBy placed j k) ⊎ ((k : ℕ) → k < n → get_or to k 0 ≡ get_or from j 0 → get_or placed k false ≡ true)
  feeder placed j zero le = inr (λ k lt. absurd (omega arith))
  feeder placed j (suc n) le = elim (feeder placed j n (omega arith)) [
    | inl found ↦ inl found
    | inr none ↦ elim (cases_eq (get_or to n 0) (get_or from j 0)) [
      | inl feeds ↦ elim (get_or placed n false) as (λ t. get_or placed n false ≡ t → ((k : ℕ) × IsFedBy placed j k) ⊎ ((k : ℕ) → k < suc n → get_or to k 0 ≡ get_or from j 0 → get_or placed k false ≡ true)) [
        | false ↦ λ free. inl (n, record { in_range = omega arith; free = free; feeds = feeds })
        | true ↦ λ is. inr (λ k lt. below_more (λ i. get_or to i 0 ≡ get_or from j 0 → get_or placed i false ≡ true) n none (λ e. is) k (omega arith))
      ] refl
      | inr ne ↦ inr (λ k lt. below_more (λ i. get_or to i 0 ≡ get_or from j 0 → get_or placed i false ≡ true) n none (λ e. absurd (ne e)) k (omega arith))
    ]
  ]

  ready : (placed : List Bool) (n : ℕ) → n ≤ length from → ((j : ℕ) × IsReady placed j) ⊎ ((j : ℕ) → j < n → get_or placed j false ≡ false → (k : ℕ) × IsFedBy placed j k)
  ready placed zero le = inr (λ j lt. absurd (omega arith))
  ready placed (suc n) le = elim (ready placed n (omega arith)) [
    | inl found ↦ inl found
    | inr none ↦ elim (feeder placed n (length from) (omega arith)) [
      | inl by ↦ inr (λ j lt. below_more (λ i. get_or placed i false ≡ false → (k : ℕ) × IsFedBy placed i k) n none (λ free. by) j (omega arith))
      | inr all ↦ elim (get_or placed n false) as (λ t. get_or placed n false ≡ t → ((j : ℕ) × IsReady placed j) ⊎ ((j : ℕ) → j < suc n → get_or placed j false ≡ false → (k : ℕ) × IsFedBy placed j k)) [
        | false ↦ λ free. inl (n, record { in_range = omega arith; free = free; fed = all })
        | true ↦ λ is. inr (λ j lt. below_more (λ i. get_or placed i false ≡ false → (k : ℕ) × IsFedBy placed i k) n none (λ free. absurd (cc (is, free))) j (omega arith))
      ] refl
    ]
  ]

  free_arrow : (placed : List Bool) (n : ℕ) → ((j : ℕ) × (j < n) × (get_or placed j false ≡ false)) ⊎ ((j : ℕ) → j < n → get_or placed j false ≡ true)
  free_arrow placed zero = inr (λ j lt. absurd (omega arith))
  free_arrow placed (suc n) = elim (free_arrow placed n) [
    | inl found ↦ inl (found.0, omega (arith, found.1), found.2)
    | inr none ↦ elim (get_or placed n false) as (λ t. get_or placed n false ≡ t → ((j : ℕ) × (j < suc n) × (get_or placed j false ≡ false)) ⊎ ((j : ℕ) → j < suc n → get_or placed j false ≡ true)) [
      | false ↦ λ free. inl (n, omega arith, free)
      | true ↦ λ is. inr (λ j lt. below_more (λ i. get_or placed i false ≡ true) n none is j (omega arith))
    ] refl
  ]

  fed_push : (order : List ℕ) (placed : List Bool) (j : ℕ) → IsQueue (length from) order placed → AreFed from to order → IsReady placed j → AreFed from to (order ++ j ∷ [])
  fed_push order placed j q fed is = λ m m_lt k k_lt e.
      let seam = get_or-append_seam order j [] 0 in
      below_more (λ i. get_or to k 0 ≡ get_or from (get_or (order ++ j ∷ []) i 0) 0 → (n : ℕ) × (n < i) × (get_or (order ++ j ∷ []) n 0 ≡ k)) (length order)
      (λ i i_lt into.
      let was = fed i i_lt k k_lt (rw (get_or_append_left order (j ∷ []) 0 i i_lt) at into) in
      let was_lt = was.1 in
      (was.0, was.1, get_or_append_left order (j ∷ []) 0 was.0 (omega arith) ∙ was.2))
      (λ into.
      let there = q.there k (is.fed k k_lt (rw seam at into)) in
      (there.0, there.1, get_or_append_left order (j ∷ []) 0 there.0 there.1 ∙ there.2))
      m (omega (arith, m_lt, length-append order (j ∷ []))) e

  pushed : (order : List ℕ) (placed : List Bool) (j : ℕ) → IsQueue (length from) order placed → AreFed from to order → IsReady placed j → IsLonger order
  pushed order placed j q fed is = record {
    longer = order ++ j ∷ [];
    placed = set placed j true;
    queue = queue_push (length from) order placed j q is.in_range is.free;
    fed = fed_push order placed j q fed is;
    one_more = length-append order (j ∷ []);
  }

  -- Where each arrow that is not placed is fed by another such one, there is a cycle.
  cycle : (placed : List Bool) (j : ℕ) → j < length from → get_or placed j false ≡ false → ((j : ℕ) → j < length from → get_or placed j false ≡ false → (k : ℕ) × IsFedBy placed j k) → HasCycle from to
  cycle placed j lt free fed =
      let found = stuck (λ (i k : ℕ). (i < length from) × (k < length from) × Leads from to i k) (λ i k l a b. (a.0, b.1, leads_on from to i k l a.1 a.2 b.2)) (λ (i : ℕ). not (get_or placed i false)) (length from)
      (λ i i_lt i_free.
      let by = fed i i_lt (not-true (get_or placed i false) i_free) in
      (by.0, by.1.in_range, rw by.1.free refl, (by.1.in_range, i_lt, leads_one from to by.0 i (sym by.1.feeds))))
      j lt (rw free refl) in
      (found.0, (found.1, found.2.2))

  grown : (steps : ℕ) (order : List ℕ) (placed : List Bool) → IsQueue (length from) order placed → AreFed from to order → length from < length order + steps → ((order : List ℕ) × IsTopological from to order) ⊎ HasCycle from to
  grown zero order placed q fed few = absurd (omega (arith, q.count))
  grown (suc steps) order placed q fed few = elim (free_arrow placed (length from)) [
    | inr all ↦ inl (order, record { in_range = q.in_range; each = λ j lt. q.there j (all j lt); once = q.once; fed = fed })
    | inl free ↦ elim (ready placed (length from) (omega arith)) [
      | inr by ↦ inr (cycle placed free.0 free.1 free.2 by)
      | inl found ↦
          let next = pushed order placed found.0 q fed found.1 in
          grown steps next.longer next.placed next.queue next.fed (omega (arith, next.one_more))
    ]
  ]

unset : (n j : ℕ) → get_or (replicate n false) j false ≡ true → ⊥
unset n j is = elim (cases_lt j n) [
  | inl lt ↦ cc (get_or-replicate n j false false lt, is)
  | inr le ↦ cc (get_or_past (replicate n false) j false (omega (arith, le, length-replicate n false)), is)
]

none_placed : (n : ℕ) → IsQueue n [] (replicate n false)
none_placed n = record {
  flags = length-replicate n false;
  in_range = λ m lt. absurd (omega arith);
  flagged = λ m lt. absurd (omega arith);
  there = λ j is. absurd (unset n j is);
  once = λ m k below lt. absurd (omega arith);
  count = omega (arith, sum_by-replicate (λ (b : Bool). cond (not b) 1 0) n false);
}

pub order_or_cycle : OrderExists
order_or_cycle from to = grown from to (suc (length from)) [] (replicate (length from) false) (none_placed (length from)) (λ m lt. absurd (omega arith)) (omega arith)
