-- One more arrow in the list.
use Rattle.std.proofs.Common.{◌≡◌, ◌≢◌, inl, inr, ℕ, ◌+◌, ◌<◌, ◌≤◌, Bool, true, false, not, cond, List, [], ◌∷◌, ◌++◌, length, get_or, set, refl, ap, sym, ◌∙◌, arith, below_more, get_or-set_same, get_or-set_other}
use Rattle.std.proofs.lemmas.Bool.{cases_lt, cases_eq}
use Rattle.std.proofs.Math.Seq.{get_or-append_seam}
use Rattle.std.proofs.lemmas.List.{length-append, length-set, get_or_append_left}
use Rattle.std.proofs.lemmas.List.Sums.{sum_by-set}
use Rattle.reo_net_base.specs.order.Links.{IsLast}
use Rattle.reo_net_base.specs.order.Queue.{IsQueue, Grown, Pushed}

pub grown_same : (xs : List ℕ) → Grown xs xs
grown_same xs = record { longer = omega arith; kept = λ m lt. refl }

pub grown_push : (xs ys : List ℕ) (y : ℕ) → Grown xs ys → Grown xs (ys ++ y ∷ [])
grown_push xs ys y g = let longer = g.longer in record {
  longer = omega (arith, length-append ys (y ∷ []));
  kept = λ m lt. get_or_append_left ys (y ∷ []) 0 m (omega arith) ∙ g.kept m lt;
}

-- What was placed is placed.
pub placed_still : (n m : ℕ) (old new : List ℕ) (before after : List Bool) → IsQueue n old before → IsQueue m new after → Grown old new
    → (j : ℕ) → get_or before j false ≡ true → get_or after j false ≡ true
placed_still n m old new before after q r g j is =
    let there = q.there j is in
    let same = g.kept there.0 there.1 ∙ there.2 in
    let longer = g.longer in
    rw same at (r.flagged there.0 (omega (arith, there.1)))

pub set_true : (placed : List Bool) (j k : ℕ) → get_or placed k false ≡ true → j < length placed → get_or (set placed j true) k false ≡ true
set_true placed j k is lt = elim (cases_eq k j) [
  | inl e ↦ rw e (get_or-set_same placed j true false lt)
  | inr ne ↦ get_or-set_other placed j k true false ne ∙ is
]

pub queue_push : (n : ℕ) (order : List ℕ) (placed : List Bool) (j : ℕ) → IsQueue n order placed → j < n → get_or placed j false ≡ false
    → IsQueue n (order ++ j ∷ []) (set placed j true)
queue_push n order placed j q lt free =
    let in_flags : j < length placed = omega (arith, q.flags) in
    let size = length-append order (j ∷ []) in
    let seam = get_or-append_seam order j [] 0 in
    let counted = sum_by-set (λ (b : Bool). cond (not b) 1 0) placed j true false in_flags in
    let counted_free = rw free at counted in
    record {
      flags = length-set placed j true ∙ q.flags;
      in_range = λ m m_lt. below_more (λ k. get_or (order ++ j ∷ []) k 0 < n) (length order)
          (λ k k_lt. rw (get_or_append_left order (j ∷ []) 0 k k_lt) (q.in_range k k_lt)) (rw seam lt) m (omega arith);
      flagged = λ m m_lt. below_more (λ k. get_or (set placed j true) (get_or (order ++ j ∷ []) k 0) false ≡ true) (length order)
          (λ k k_lt. rw (get_or_append_left order (j ∷ []) 0 k k_lt) (set_true placed j (get_or order k 0) (q.flagged k k_lt) in_flags))
          (rw seam (get_or-set_same placed j true false in_flags)) m (omega arith);
      there = λ k is. elim (cases_eq k j) [
        | inl e ↦ (length order, omega arith, seam ∙ sym e)
        | inr ne ↦
            let was = q.there k (sym (get_or-set_other placed j k true false ne) ∙ is) in
            (was.0, omega (arith, was.1), get_or_append_left order (j ∷ []) 0 was.0 was.1 ∙ was.2)
      ];
      once = λ m k below k_lt. below_more (λ i. m < i → get_or (order ++ j ∷ []) m 0 ≢ get_or (order ++ j ∷ []) i 0) (length order)
          (λ i i_lt m_lt. let m_in : m < length order = omega arith in rw (get_or_append_left order (j ∷ []) 0 i i_lt, get_or_append_left order (j ∷ []) 0 m m_in) (q.once m i m_lt i_lt))
          (λ m_lt e. let there = q.flagged m m_lt in let same = sym (get_or_append_left order (j ∷ []) 0 m m_lt) ∙ e ∙ seam in cc (rw same at there, free)) k (omega arith) below;
      count = omega (arith, q.count, counted_free);
    }

-- The last arrow is taken out.
pub queue_pop : (n : ℕ) (order : List ℕ) (placed : List Bool) (j : ℕ) → IsQueue n (order ++ j ∷ []) placed → IsQueue n order (set placed j false)
queue_pop n order placed j q =
    let size = length-append order (j ∷ []) in
    let seam = get_or-append_seam order j [] 0 in
    let last : length order < length (order ++ j ∷ []) = omega arith in
    let set_there : get_or placed j false ≡ true = rw seam at (q.flagged (length order) last) in
    let lt : j < n = rw seam at (q.in_range (length order) last) in
    let in_flags : j < length placed = omega (arith, q.flags) in
    let counted = sum_by-set (λ (b : Bool). cond (not b) 1 0) placed j false false in_flags in
    let counted_set = rw set_there at counted in
    let left = λ (m : ℕ) (m_lt : m < length order). get_or_append_left order (j ∷ []) 0 m m_lt in
    record {
      flags = length-set placed j false ∙ q.flags;
      in_range = λ m m_lt. rw (left m m_lt) at (q.in_range m (omega arith));
      flagged = λ m m_lt.
          let other : get_or order m 0 ≢ j = λ e. q.once m (length order) m_lt last (left m m_lt ∙ e ∙ sym seam) in
          get_or-set_other placed j (get_or order m 0) false false other ∙ (rw (left m m_lt) at (q.flagged m (omega arith)));
      there = λ k is. elim (cases_eq k j) [
        | inl e ↦ let no = get_or-set_same placed j false false in_flags in let yes = rw e at is in cc
        | inr ne ↦
            let was = q.there k (sym (get_or-set_other placed j k false false ne) ∙ is) in
            let was_lt = was.1 in
            elim (cases_eq was.0 (length order)) [
              | inl same ↦ absurd (ne (sym was.2 ∙ (ap (λ (x : ℕ). get_or (order ++ j ∷ []) x 0) same ∙ seam)))
              | inr other ↦ let m_lt : was.0 < length order = omega arith in (was.0, m_lt, sym (left was.0 m_lt) ∙ was.2)
            ]
      ];
      once = λ m k below k_lt e. let m_lt : m < length order = omega arith in q.once m k below (omega arith) (left m m_lt ∙ e ∙ sym (left k k_lt));
      count = omega (arith, q.count, counted_set);
    }

-- So far down the links of a side: the arrows from `at` on are in the list.
pub record Pushing (ends : List ℕ) (side : ℕ) (old new : List ℕ) (placed : List Bool) (at : ℕ) : Type 0 where
  pub queue : IsQueue (length ends) new placed
  pub grown : Grown old new
  pub after : (j : ℕ) → at ≤ j → j < length ends → get_or ends j 0 ≡ side → get_or placed j false ≡ true
  pub only : (m : ℕ) → length old ≤ m → m < length new → get_or ends (get_or new m 0) 0 ≡ side
  pub within : at ≤ length ends
  pub here : (j : ℕ) → at ≡ j + 1 → get_or ends j 0 ≡ side

module _ (ends : List ℕ) (side : ℕ) (old : List ℕ) where
  pub pushing_none : (placed : List Bool) (w : ℕ) → IsQueue (length ends) old placed → IsLast ends side (length ends) w → Pushing ends side old old placed w
  pushing_none placed w q last = record {
    queue = q;
    grown = grown_same old;
    after = λ j le lt is. absurd (last.none_after j le lt is);
    only = λ m le lt. absurd (omega arith);
    within = last.within;
    here = last.here;
  }

  pub pushing_done : (new : List ℕ) (placed : List Bool) → Pushing ends side old new placed 0 → Pushed ends side old new placed
  pushing_done new placed p = record { queue = p.queue; grown = p.grown; all = λ j lt is. p.after j (omega arith) lt is; only = p.only }

  -- Past a arrow that is placed.
  pub pushing_past : (new : List ℕ) (placed : List Bool) (j w : ℕ) → Pushing ends side old new placed (j + 1) → IsLast ends (get_or ends j 0) j w → get_or placed j false ≡ true → Pushing ends side old new placed w
  pushing_past new placed j w p last is =
      let here = p.here j refl in
      let within = p.within in
      let w_in = last.within in
      record {
        queue = p.queue;
        grown = p.grown;
        after = λ k le lt k_is. elim (cases_lt k j) [
          | inl below ↦ absurd (last.none_after k le below (k_is ∙ sym here))
          | inr above ↦ elim (cases_eq k j) [
            | inl e ↦ rw e is
            | inr ne ↦ p.after k (omega arith) lt k_is
          ]
        ];
        only = p.only;
        within = omega arith;
        here = λ k e. last.here k e ∙ here;
      }

  -- A arrow is placed.
  pub pushing_push : (new : List ℕ) (placed : List Bool) (j : ℕ) → Pushing ends side old new placed (j + 1) → get_or placed j false ≡ false → Pushing ends side old (new ++ j ∷ []) (set placed j true) (j + 1)
  pushing_push new placed j p free =
      let within = p.within in
      let lt : j < length ends = omega arith in
      let in_flags : j < length placed = omega (arith, p.queue.flags) in
      record {
        queue = queue_push (length ends) new placed j p.queue lt free;
        grown = grown_push old new j p.grown;
        after = λ k le k_lt k_is. set_true placed j k (p.after k le k_lt k_is) in_flags;
        only = λ m le m_lt. below_more (λ k. length old ≤ k → get_or ends (get_or (new ++ j ∷ []) k 0) 0 ≡ side) (length new)
            (λ k k_lt k_le. rw (get_or_append_left new (j ∷ []) 0 k k_lt) (p.only k k_le k_lt))
            (λ k_le. rw (get_or-append_seam new j [] 0) (p.here j refl)) m (omega (arith, m_lt, length-append new (j ∷ []))) le;
        within = within;
        here = p.here;
      }
