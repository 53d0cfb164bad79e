-- Lists of which some places are made anew.
use Rattle.std.proofs.Common.{◌≡◌, ◌≢◌, inl, inr, ℕ, ◌+◌, ◌<◌, Bool, true, Result, Ok, Err, OnOk, List, [], length, get_or, set, replicate, refl, ap, sym, ◌∙◌, subst, arith, below_more, get_or-set_same, get_or-set_other}
use Rattle.std.specs.Prelude.{Contains}
use Rattle.std.proofs.lemmas.Bool.{both_ways}
use Rattle.std.proofs.lemmas.Bool.Decides.{eqb_tells}
use Rattle.std.proofs.lemmas.List.{get_or_default, length-set, length-replicate}
use Rattle.reo_propagate.specs.Queues.{among}
use Rattle.reo_search_tables.proofs.Among.{among_at, among_stands}
use Rattle.reo_search_tables.specs.Renewing.{StaysBesides, AreRightAt}

-- A list stays but at one place.
pub record IsPut {A : Type 0} (x : ℕ) (old new : List A) : Type 0 where
  pub one_each : length new ≡ length old
  pub other : (k : ℕ) (d : A) → k < length old → k ≢ x → get_or new k d ≡ get_or old k d

-- One place of a list was written.
pub set_put : {A : Type 0} (x : ℕ) (v : A) (xs : List A) → IsPut x xs (set xs x v)
set_put x v xs = record { one_each = length-set xs x v; other = λ k d lt ne. get_or-set_other xs x k v d ne }

-- One row of flags was made anew.
pub row_put : (row : ℕ) (old new : List (List Bool)) → length new ≡ length old → ((i : ℕ) → (i ≡ row → ⊥) → get_or new i [] ≡ get_or old i []) → IsPut row old new
row_put row old new n other = record {
  one_each = n;
  other = λ k d lt ne. get_or_default new k d [] (omega (arith, n, lt)) ∙ other k ne ∙ sym (get_or_default old k d [] lt);
}

-- Nothing has changed yet.
pub stays_still : {A : Type 0} (places : List ℕ) (xs : List A) → StaysBesides places xs xs
stays_still places xs = record { one_each = refl; other = λ k d lt not. refl }

-- One place more may have changed.
pub stays_more : {A : Type 0} (places : List ℕ) (n : ℕ) (old now new : List A) → n < length places → StaysBesides places old now → IsPut (get_or places n 0) now new → StaysBesides places old new
stays_more places n old now new lt stays put = record {
  one_each = put.one_each ∙ stays.one_each;
  other = λ k d k_in not.
      put.other k d (omega (arith, k_in, stays.one_each)) (λ e. both_ways (among places k) not (subst (λ (i : ℕ). among places i ≡ true) (sym e) (among_at places n lt)))
      ∙ stays.other k d k_in not;
}

-- None of the first 0 places is wrong.
pub right_none : {A : Type 0} (places : List ℕ) (right : ℕ → A → Type 0) (xs : List A) → AreRightAt places 0 right xs
right_none places right xs m d lt = absurd (omega arith)

-- One place more is right.
pub right_more : {A : Type 0} (places : List ℕ) (n : ℕ) (right : ℕ → A → Type 0) (now new : List A) → ((s : ℕ) → among places s ≡ true → s < length now) → n < length places
    → AreRightAt places n right now → IsPut (get_or places n 0) now new → ((d : A) → right (get_or places n 0) (get_or new (get_or places n 0) d)) → AreRightAt places (n + 1) right new
right_more {A} places n right now new in_range n_in are put here m d lt =
    below_more (λ (m : ℕ). (d : A) → right (get_or places m 0) (get_or new (get_or places m 0) d)) n
    (λ m m_lt d. elim (eqb_tells (get_or places m 0) (get_or places n 0)) [
      | inl same ↦ subst (λ (s : ℕ). right s (get_or new s d)) (sym same.1) (here d)
      | inr apart ↦
          let m_in : m < length places = omega arith in
          let place : get_or places m 0 < length now = in_range (get_or places m 0) (among_at places m m_in) in
          subst (λ (v : A). right (get_or places m 0) v) (sym (put.other (get_or places m 0) d place apart.1)) (are m d m_lt)
    ])
    here m lt d

-- All places that a list names are right.
pub right_all : {A : Type 0} (places : List ℕ) (right : ℕ → A → Type 0) (xs : List A) → AreRightAt places (length places) right xs → (s : ℕ) (d : A) → among places s ≡ true → right s (get_or xs s d)
right_all places right xs are s d h =
    let it = among_stands places s h in
    subst (λ (i : ℕ). right i (get_or xs i d)) it.2 (are it.0 d it.1)

-- What was written is there, whatever is read past the end.
pub set_here : {A : Type 0} (x : ℕ) (v : A) (xs : List A) → x < length xs → (d : A) → get_or (set xs x v) x d ≡ v
set_here x v xs lt d = get_or-set_same xs x v d lt

-- A row of so many flags has as many.
pub row_length : (row count : ℕ) (value : Bool) (table : List (List Bool)) → row < length table → get_or table row [] ≡ replicate count value → (d : List Bool) → length (get_or table row d) ≡ count
row_length row count value table lt is d = ap length (get_or_default table row d [] lt ∙ is) ∙ length-replicate count value

-- A number that a list has is among it.
pub contains_among : (xs : List ℕ) (x : ℕ) → Contains xs x → among xs x ≡ true
contains_among xs x it = subst (λ (k : ℕ). among xs k ≡ true) (get_or_default xs it.0 0 x it.1 ∙ it.2) (among_at xs it.0 it.1)

-- And back.
pub among_contains : (xs : List ℕ) (x : ℕ) → among xs x ≡ true → Contains xs x
among_contains xs x h = let it = among_stands xs x h in (it.0, it.1, get_or_default xs it.0 x 0 it.1 ∙ it.2)

-- What follows on success.
pub on_ok : {X E P Q : Type 0} (r : Result X E) → OnOk r P → (P → Q) → OnOk r Q
on_ok (Ok x) h f = f h
on_ok (Err e) h f = h
