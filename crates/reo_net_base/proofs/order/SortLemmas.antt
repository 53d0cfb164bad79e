-- Putting the arrows in order.
use Rattle.std.proofs.Common.{◌≡◌, ◌≢◌, inl, inr, ℕ, zero, suc, ◌+◌, ◌<◌, ◌≤◌, Bool, true, false, not, List, length, get_or, set, refl, ap, sym, ◌∙◌, arith, get_or-set_same, get_or-set_other}
use Rattle.std.proofs.lemmas.Bool.{cases_lt, cases_eq}
use Rattle.std.proofs.lemmas.List.{length-set}
use Rattle.reo_net_base.specs.order.Arrows.{Leads, HasCycle, AreFed}
use Rattle.reo_net_base.specs.order.Front.{IsFront}
use Rattle.reo_net_base.specs.order.Links.{IsLast}
use Rattle.reo_net_base.specs.order.Queue.{IsQueue, Pushed, IsSkipped}
use Rattle.reo_net_base.proofs.order.QueueLemmas.{placed_still}
use Rattle.reo_net_base.proofs.order.WalkLemmas.{leads_one, leads_on, stuck}

-- So far past arrows that are in the list.
pub record Skipping (ends : List ℕ) (side : ℕ) (placed : List Bool) (old new : ℕ) : Type 0 where
  pub within : new ≤ old
  pub passed : (j : ℕ) → new ≤ j → j < old → get_or ends j 0 ≡ side → get_or placed j false ≡ true
  pub here : (j : ℕ) → new ≡ j + 1 → get_or ends j 0 ≡ side

-- How far the arrows into a side are in the list: those from w on, and arrow w - 1 is not, or is still to be looked at.
pub record IsWaiting (to order : List ℕ) (placed : List Bool) (at side w : ℕ) : Type 0 where
  pub within : w ≤ length to
  pub passed : (j : ℕ) → w ≤ j → j < length to → get_or to j 0 ≡ side → get_or placed j false ≡ true
  pub here : (j : ℕ) → w ≡ j + 1 → get_or to j 0 ≡ side
  pub pending : (j : ℕ) → w ≡ j + 1 → get_or placed j false ≡ true → (m : ℕ) × (at ≤ m) × (m < length order) × (get_or order m 0 ≡ j)

-- The arrows before `at` have been looked at.
pub record Sorting (from to order : List ℕ) (placed : List Bool) (waits : List ℕ) (at : ℕ) : Type 0 where
  pub queue : IsQueue (length from) order placed
  pub within : at ≤ length order
  pub waiting : (s : ℕ) → s < length waits → IsWaiting to order placed at s (get_or waits s 0)
  pub fed : AreFed from to order

-- Where a side waits for none, the arrows from there are in the list.
pub record AreReady (from : List ℕ) (placed : List Bool) (waits : List ℕ) (limit : ℕ) : Type 0 where
  pub ready : (s : ℕ) → s < limit → get_or waits s 0 ≡ 0 → (j : ℕ) → j < length from → get_or from j 0 ≡ s → get_or placed j false ≡ true

module _ (from to : List ℕ) (one_each : length to ≡ length from) where
  pub sorting_none : (order : List ℕ) (placed : List Bool) (waits : List ℕ) → IsQueue (length from) order placed → length order ≡ 0 → ((s : ℕ) → s < length waits → IsLast to s (length to) (get_or waits s 0))
      → Sorting from to order placed waits 0
  sorting_none order placed waits q none lasts = record {
    queue = q;
    within = omega arith;
    waiting = λ s lt. let last = lasts s lt in record {
      within = last.within;
      passed = λ j le j_lt is. absurd (last.none_after j le j_lt is);
      here = last.here;
      pending = λ j e is. let there = q.there j is in absurd (omega (arith, there.1));
    };
    fed = λ m lt. absurd (omega arith);
  }

  module _ (old new : List ℕ) (before after : List Bool) (q : IsQueue (length from) old before) (side : ℕ) (p : Pushed from side old new after) where
    still : (j : ℕ) → get_or before j false ≡ true → get_or after j false ≡ true
    still = placed_still (length from) (length from) old new before after q p.queue p.grown

    waiting_push : (at s w : ℕ) → at ≤ length old → IsWaiting to old before at s w → IsWaiting to new after at s w
    waiting_push at s w at_in is =
        let longer = p.grown.longer in
        record {
          within = is.within;
          passed = λ j le lt e. still j (is.passed j le lt e);
          here = is.here;
          pending = λ j e placed.
              let there = p.queue.there j placed in
              elim (cases_lt there.0 (length old)) [
                | inl h ↦
                    let same = sym (p.grown.kept there.0 h) ∙ there.2 in
                    let was = is.pending j e (rw same at (q.flagged there.0 h)) in
                    let was_lt = was.2 in
                    (was.0, was.1, omega arith, p.grown.kept was.0 was.2 ∙ was.3)
                | inr h ↦ (there.0, omega arith, there.1, there.2)
              ];
        }

    pub sorting_push : (waits : List ℕ) (at : ℕ) → Sorting from to old before waits at → side < length waits → get_or waits side 0 ≡ 0 → Sorting from to new after waits at
    sorting_push waits at s lt none =
        let within = s.within in
        let longer = p.grown.longer in
        record {
          queue = p.queue;
          within = omega arith;
          waiting = λ t t_lt. waiting_push at t (get_or waits t 0) within (s.waiting t t_lt);
          fed = λ m m_lt k k_lt e. elim (cases_lt m (length old)) [
            | inl h ↦
                let was = s.fed m h k k_lt (rw (p.grown.kept m h) at e) in
                let was_lt = was.1 in
                let n_lt : was.0 < length old = omega arith in
                (was.0, was.1, p.grown.kept was.0 n_lt ∙ was.2)
            | inr h ↦
                let into : get_or to k 0 ≡ side = e ∙ p.only m h m_lt in
                let placed = (s.waiting side lt).passed k (omega (arith, none)) (omega arith) into in
                let there = s.queue.there k placed in
                let there_lt = there.1 in
                (there.0, omega arith, p.grown.kept there.0 there.1 ∙ there.2)
          ];
        }

    pub ready_push : (waits : List ℕ) (limit : ℕ) → ((s : ℕ) → s < limit → s ≢ side → get_or waits s 0 ≡ 0 → (j : ℕ) → j < length from → get_or from j 0 ≡ s → get_or before j false ≡ true) → AreReady from after waits limit
    ready_push waits limit r = record {
      ready = λ s lt none j j_lt e. elim (cases_eq s side) [
        | inl same ↦ p.all j j_lt (e ∙ same)
        | inr ne ↦ still j (r s lt ne none j j_lt e)
      ];
    }

  module _ (order : List ℕ) (placed : List Bool) (waits : List ℕ) (at : ℕ) (s : Sorting from to order placed waits at) (lt : at < length order) where
    -- Another side than that into which the arrow goes.
    waiting_other : (t w : ℕ) → IsWaiting to order placed at t w → t ≢ get_or to (get_or order at 0) 0 → IsWaiting to order placed (at + 1) t w
    waiting_other t w is ne = record {
      within = is.within;
      passed = is.passed;
      here = is.here;
      pending = λ j e placed.
          let was = is.pending j e placed in
          let was_le = was.1 in
          elim (cases_eq was.0 at) [
            | inl same ↦ absurd (ne (sym (ap (λ (x : ℕ). get_or to x 0) (rw same at was.3) ∙ is.here j e)))
            | inr other ↦ (was.0, omega arith, was.2, was.3)
          ];
    }

    -- The side waits for none.
    waiting_done : (t w : ℕ) → IsWaiting to order placed at t w → w ≡ 0 → IsWaiting to order placed (at + 1) t w
    waiting_done t w is none = record {
      within = is.within;
      passed = is.passed;
      here = is.here;
      pending = λ j e placed. absurd (omega arith);
    }

    pub sorting_past : get_or waits (get_or to (get_or order at 0) 0) 0 ≡ 0 → Sorting from to order placed waits (at + 1)
    sorting_past none = record {
      queue = s.queue;
      within = omega arith;
      waiting = λ t t_lt. elim (cases_eq t (get_or to (get_or order at 0) 0)) [
        | inl e ↦ waiting_done t (get_or waits t 0) (s.waiting t t_lt) (rw e none)
        | inr ne ↦ waiting_other t (get_or waits t 0) (s.waiting t t_lt) ne
      ];
      fed = s.fed;
    }

    waiting_skip : (t w v : ℕ) → IsWaiting to order placed at t w → IsSkipped to t placed w v → IsWaiting to order placed (at + 1) t v
    waiting_skip t w v is skipped =
        let within = is.within in
        let v_in = skipped.within in
        record {
          within = omega arith;
          passed = λ j le j_lt e. elim (cases_lt j w) [ inl h ↦ skipped.passed j le h e | inr h ↦ is.passed j h j_lt e ];
          here = skipped.here;
          pending = λ j e placed. let free = skipped.free j e in cc;
        }

    pub sorting_skip : (side v : ℕ) → side ≡ get_or to (get_or order at 0) 0 → side < length waits → IsSkipped to side placed (get_or waits side 0) v → Sorting from to order placed (set waits side v) (at + 1)
    sorting_skip side v is side_lt skipped = record {
      queue = s.queue;
      within = omega arith;
      waiting = λ t t_lt.
          let t_in : t < length waits = omega (arith, length-set waits side v) in
          elim (cases_eq t side) [
            | inl e ↦ rw e (rw (get_or-set_same waits side v 0 side_lt) (waiting_skip side (get_or waits side 0) v (s.waiting side side_lt) skipped))
            | inr ne ↦ rw (get_or-set_other waits side t v 0 ne) (waiting_other t (get_or waits t 0) (s.waiting t t_in) (λ e. ne (e ∙ sym is)))
          ];
      fed = s.fed;
    }

  module _ (order : List ℕ) (placed : List Bool) (waits : List ℕ) (s : Sorting from to order placed waits (length order)) (r : AreReady from placed waits (length waits))
      (in_sides : (j : ℕ) → j < length from → get_or from j 0 < length waits) where
    free_at : (j : ℕ) → j < length from → not (get_or placed j false) ≡ true → (w : ℕ) → get_or waits (get_or from j 0) 0 ≡ w → (k : ℕ) × (k < length from) × (not (get_or placed k false) ≡ true) × (Leads from to k j)
    free_at j lt free zero e =
        let is = r.ready (get_or from j 0) (in_sides j lt) e j lt refl in
        let no = rw is at free in
        cc
    free_at j lt free (suc k) e =
        let is = s.waiting (get_or from j 0) (in_sides j lt) in
        let within = is.within in
        let here = is.here k (omega (arith, e)) in (
          k,
          omega (arith, e),
          elim (get_or placed k false) as (λ t. get_or placed k false ≡ t → not t ≡ true) [
            | false ↦ λ p. refl
            | true ↦ λ p. let m = is.pending k (omega (arith, e)) p in absurd (omega (arith, m.1, m.2))
          ] refl,
          leads_one from to k j (sym here),
        )

    -- A arrow that was never put in the list is led to by another such one, and so on.
    sorting_stuck : (j : ℕ) → j < length from → get_or placed j false ≡ false → HasCycle from to
    sorting_stuck j lt free =
        let found = stuck (λ (i k : ℕ). (i < length from) × (k < length from) × Leads from to i k) (λ i k l a b. (a.0, b.1, leads_on from to i k l a.1 a.2 b.2)) (λ (i : ℕ). not (get_or placed i false)) (length from)
        (λ i i_lt i_free. let f = free_at i i_lt i_free (get_or waits (get_or from i 0) 0) refl in (f.0, f.1, f.2, (f.1, i_lt, f.3)))
        j lt (rw free refl) in
        (found.0, (found.1, found.2.2))

    pub sorting_done : IsFront from to order placed
    sorting_done = record { queue = s.queue; fed = s.fed; left = sorting_stuck }

-- A side waits on.
pub ready_skip : (from : List ℕ) (placed : List Bool) (waits : List ℕ) (side v : ℕ) → AreReady from placed waits (length waits) → side < length waits → v ≢ 0 → AreReady from placed (set waits side v) (length (set waits side v))
ready_skip from placed waits side v r lt some = record {
  ready = λ s s_lt none. elim (cases_eq s side) [
    | inl e ↦ absurd (some (sym (get_or-set_same waits side v 0 lt) ∙ (rw e at none)))
    | inr ne ↦ r.ready s (omega (arith, length-set waits side v)) (sym (get_or-set_other waits side s v 0 ne) ∙ none)
  ];
}
