-- One more arrow is linked.
use Rattle.std.proofs.Common.{◌≡◌, ◌≢◌, inl, inr, ℕ, zero, suc, ◌+◌, ◌<◌, ◌≤◌, List, [], ◌∷◌, ◌++◌, length, get_or, set, replicate, refl, sym, ◌∙◌, arith, below_more, get_or-set_same, get_or-set_other}
use Rattle.std.proofs.lemmas.Bool.{cases_eq}
use Rattle.std.proofs.Math.Seq.{get_or-append_seam}
use Rattle.std.proofs.lemmas.List.{length-append, length-set, length-replicate, get_or_append_left}
use Rattle.reo_net_base.specs.order.Links.{IsLast, AreLinks}

pub record Linking (ends first next : List ℕ) (sides n : ℕ) : Type 0 where
  pub first_length : length first ≡ sides
  pub next_length : length next ≡ n
  pub firsts : (s : ℕ) → s < sides → IsLast ends s n (get_or first s 0)
  pub nexts : (j : ℕ) → j < n → IsLast ends (get_or ends j 0) j (get_or next j 0)

last_here : (ends : List ℕ) (s n : ℕ) → get_or ends n 0 ≡ s → IsLast ends s (n + 1) (n + 1)
last_here ends s n e = record {
  within = omega arith;
  none_after = λ j h lt. absurd (omega arith);
  here = λ j is. let same : n ≡ j = omega arith in rw same at e;
}

last_kept : (ends : List ℕ) (s n w : ℕ) → IsLast ends s n w → get_or ends n 0 ≢ s → IsLast ends s (n + 1) w
last_kept ends s n w last ne = let within = last.within in record {
  within = omega arith;
  none_after = λ j h lt. below_more (λ k. w ≤ k → get_or ends k 0 ≢ s) n (λ k k_lt le. last.none_after k le k_lt) (λ le. ne) j lt h;
  here = last.here;
}

pub link_more : (ends first next : List ℕ) (sides n : ℕ) → Linking ends first next sides n → get_or ends n 0 < sides
    → Linking ends (set first (get_or ends n 0) (n + 1)) (next ++ get_or first (get_or ends n 0) 0 ∷ []) sides (n + 1)
link_more ends first next sides n is lt =
    let side : ℕ = get_or ends n 0 in
    let in_first : side < length first = omega (arith, is.first_length) in
    record {
      first_length = length-set first side (n + 1) ∙ is.first_length;
      next_length = omega (arith, length-append next (get_or first side 0 ∷ []), is.next_length);
      firsts = λ s s_in. elim (cases_eq s side) [
        | inl e ↦ rw e (rw (get_or-set_same first side (n + 1) 0 in_first) (last_here ends side n refl))
        | inr ne ↦ rw (get_or-set_other first side s (n + 1) 0 ne) (last_kept ends s n (get_or first s 0) (is.firsts s s_in) (λ e. ne (sym e)))
      ];
      nexts = λ j j_lt. below_more (λ k. IsLast ends (get_or ends k 0) k (get_or (next ++ get_or first side 0 ∷ []) k 0)) n
          (λ k k_lt. rw (get_or_append_left next (get_or first side 0 ∷ []) 0 k (omega (arith, is.next_length))) (is.nexts k k_lt))
          (rw (rw is.next_length at (get_or-append_seam next (get_or first side 0) [] 0)) (is.firsts side lt)) j j_lt;
    }

pub links_done : (ends first next : List ℕ) (sides : ℕ) → ((j : ℕ) → j < length ends → get_or ends j 0 < sides) → Linking ends first next sides (length ends) → AreLinks ends first next
links_done ends first next sides in_sides is = record {
  next_length = is.next_length;
  in_range = λ j lt. rw is.first_length (in_sides j lt);
  firsts = λ s lt. is.firsts s (rw is.first_length at lt);
  nexts = is.nexts;
}

pub zero_at : (n k : ℕ) → ◌≡◌ {A = ℕ} (get_or (replicate n 0) k 0) 0
zero_at zero k = refl
zero_at (suc n) zero = refl
zero_at (suc n) (suc k) = zero_at n k

zero_last : (ends : List ℕ) (s sides : ℕ) → IsLast ends s 0 (get_or (replicate sides 0) s 0)
zero_last ends s sides =
    let e = zero_at sides s in
    rw e (record { within = omega arith; none_after = λ j h lt. absurd (omega arith); here = λ j is. absurd (omega (arith, is)) })

pub linking_none : (ends : List ℕ) (sides : ℕ) → Linking ends (replicate sides 0) [] sides 0
linking_none ends sides = record {
  first_length = length-replicate sides 0;
  next_length = refl;
  firsts = λ s lt. zero_last ends s sides;
  nexts = λ j lt. absurd (omega arith);
}
