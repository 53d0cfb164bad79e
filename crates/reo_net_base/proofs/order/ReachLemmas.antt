-- The arrows to which a arrow leads.
use Rattle.std.proofs.Common.{◌≡◌, inl, inr, ℕ, ◌+◌, ◌<◌, ◌≤◌, Bool, true, false, List, [], ◌∷◌, length, get_or, sym, arith, below_more}
use Rattle.std.proofs.lemmas.Bool.{cases_lt}
use Rattle.reo_net_base.specs.order.Arrows.{Walk, Leads, OnCycle}
use Rattle.reo_net_base.specs.order.Queue.{IsQueue, Pushed}
use Rattle.reo_net_base.proofs.order.QueueLemmas.{placed_still}
use Rattle.reo_net_base.proofs.order.WalkLemmas.{leads_one, leads_on}

-- The list has arrows that the arrow leads to, and all that follow those before `at`.
pub record Reaching (from to : List ℕ) (arrow : ℕ) (order : List ℕ) (placed : List Bool) (at : ℕ) : Type 0 where
  pub queue : IsQueue (length from) order placed
  pub within : at ≤ length order
  pub sound : (m : ℕ) → m < length order → Leads from to arrow (get_or order m 0)
  pub begun : (j : ℕ) → j < length from → get_or from j 0 ≡ get_or to arrow 0 → get_or placed j false ≡ true
  pub closed : (m : ℕ) → m < at → (j : ℕ) → j < length from → get_or from j 0 ≡ get_or to (get_or order m 0) 0 → get_or placed j false ≡ true

module _ (from to : List ℕ) (arrow : ℕ) where
  pub reaching_more : (old new : List ℕ) (before after : List Bool) (at : ℕ) → Reaching from to arrow old before at → at < length old → Pushed from (get_or to (get_or old at 0) 0) old new after
      → Reaching from to arrow new after (at + 1)
  reaching_more old new before after at r lt p =
      let longer = p.grown.longer in
      let still = placed_still (length from) (length from) old new before after r.queue p.queue p.grown in
      record {
        queue = p.queue;
        within = omega arith;
        sound = λ m m_lt. elim (cases_lt m (length old)) [
          | inl h ↦ rw (p.grown.kept m h) (r.sound m h)
          | inr h ↦ leads_on from to arrow (get_or old at 0) (get_or new m 0) (r.queue.in_range at lt) (r.sound at lt) (leads_one from to (get_or old at 0) (get_or new m 0) (p.only m h m_lt))
        ];
        begun = λ j j_lt e. still j (r.begun j j_lt e);
        closed = λ m m_lt. below_more (λ k. (j : ℕ) → j < length from → get_or from j 0 ≡ get_or to (get_or new k 0) 0 → get_or after j false ≡ true) at
            (λ k k_lt j j_lt e. let k_in : k < length old = omega arith in still j (r.closed k k_lt j j_lt (rw (p.grown.kept k k_in) at e)))
            (λ j j_lt e. p.all j j_lt (rw (p.grown.kept at lt) at e)) m m_lt;
      }

  pub reaching_found : (order : List ℕ) (placed : List Bool) (at : ℕ) → Reaching from to arrow order placed at → get_or placed arrow false ≡ true → Leads from to arrow arrow
  reaching_found order placed at r is =
      let there = r.queue.there arrow is in
      rw there.2 at (r.sound there.0 there.1)

  -- A walk stays among the arrows of the list.
  stays : (order : List ℕ) (placed : List Bool) → Reaching from to arrow order placed (length order) → (js : List ℕ) (side : ℕ) → arrow < length from
      → ((j : ℕ) → j < length from → get_or from j 0 ≡ side → get_or placed j false ≡ true) → Walk from to side js (get_or from arrow 0) → get_or placed arrow false ≡ true
  stays order placed r [] side lt all w = all arrow lt (sym w)
  stays order placed r (j ∷ js) side lt all w =
      let there = r.queue.there j (all j w.0 w.1) in
      stays order placed r js (get_or to j 0) lt (λ k k_lt e. r.closed there.0 there.1 k k_lt (rw there.2 e)) w.2

  pub reaching_all : (order : List ℕ) (placed : List Bool) → Reaching from to arrow order placed (length order) → OnCycle from to arrow → get_or placed arrow false ≡ true
  reaching_all order placed r on = stays order placed r on.1.by (get_or to arrow 0) on.0 r.begun on.1.walk
