-- The best list of numbers so far.
use Rattle.std.proofs.Common.{◌≡◌, ◌≢◌, ◌⊎◌, inl, inr, ℕ, List, Option, Some, None, refl, ap, sym, ◌∙◌, subst}
use Rattle.std.specs.declared.cmp.Ordering.TheVariants.{Less, Equal, Greater}
use Rattle.std.specs.Ordering.{nat_cmp, ordering_reverse}
use Rattle.std.specs.Cmp.Lexicographic.{slice_cmp}
use Rattle.std.proofs.lemmas.Cmp.{nat_list_cmp_total}
use Rattle.reo_net_base.specs.Net.{Net}
use Rattle.reo_joint_values.specs.Values.{Choice}
use Rattle.reo_walk.specs.declared.place.KeyPlace.{KeyPlace}
use Rattle.reo_walk.specs.Places.{numbers}
use Rattle.reo_search.specs.choices.Trying.{IsLeastOf, IsFirstOf}
use Rattle.reo_search.specs.choices.Best.{IsBefore, IsKept, NoneBefore, IsBetter}

not_before : (x found best : List ℕ) → slice_cmp nat_cmp found best ≡ Less → slice_cmp nat_cmp x best ≢ Less → slice_cmp nat_cmp x found ≢ Less
not_before x found best lt h = λ e. h (nat_list_cmp_total.trans x found best e lt)

not_before_same : (x found best : List ℕ) → slice_cmp nat_cmp found best ≢ Less → slice_cmp nat_cmp x found ≢ Less → slice_cmp nat_cmp x best ≢ Less
not_before_same x found best le h = λ e.
    elim (slice_cmp nat_cmp x found) as (λ o. slice_cmp nat_cmp x found ≡ o → ⊥) [
      | Less ↦ λ o. h o
      | Equal ↦ λ o. le (sym (nat_list_cmp_total.congr x found best o) ∙ e)
      | Greater ↦ λ o. le (nat_list_cmp_total.trans found x best (nat_list_cmp_total.antisymm found x ∙ ap ordering_reverse o) e)
    ] refl

before_twice : (a b : List ℕ) (old : Option (List ℕ)) → slice_cmp nat_cmp a b ≡ Less → IsBefore b old → IsBefore a old
before_twice a b None lt h = tt
before_twice a b (Some best) lt h = nat_list_cmp_total.trans a b best lt h

module _ (net : Net) (turn : ℕ) (places : List KeyPlace) where
  -- Where there are none, none stands before any.
  pub none_at_all : (Of : (ℕ → ℕ) → Choice → Type 0) → ((rows : ℕ → ℕ) (choice : Choice) → Of rows choice → ⊥) → (best : Option (List ℕ)) → NoneBefore Of net turn places best
  none_at_all Of none None = none
  none_at_all Of none (Some best) = λ rows choice a. absurd (none rows choice a)

  -- None stands before the best so far that stands before none of them.
  pub none_behind : (Of : (ℕ → ℕ) → Choice → Type 0) (found : List ℕ) → ((rows : ℕ → ℕ) (choice : Choice) → Of rows choice → slice_cmp nat_cmp (numbers net turn places rows) found ≢ Less)
      → (best : Option (List ℕ)) → (IsBefore found best → ⊥) → NoneBefore Of net turn places best
  none_behind Of found least None not = absurd (not tt)
  none_behind Of found least (Some best) not = λ rows choice a. not_before_same (numbers net turn places rows) found best not (least rows choice a)

  none_fewer : (A B : (ℕ → ℕ) → Choice → Type 0) → ((rows : ℕ → ℕ) (choice : Choice) → B rows choice → A rows choice) → (best : Option (List ℕ)) → NoneBefore A net turn places best → NoneBefore B net turn places best
  none_fewer A B back None none = λ rows choice b. none rows choice (back rows choice b)
  none_fewer A B back (Some best) none = λ rows choice b. none rows choice (back rows choice b)

  none_of_both : (A B C : (ℕ → ℕ) → Choice → Type 0) → ((rows : ℕ → ℕ) (choice : Choice) → C rows choice → A rows choice ⊎ B rows choice)
      → (best : Option (List ℕ)) → NoneBefore A net turn places best → NoneBefore B net turn places best → NoneBefore C net turn places best
  none_of_both A B C cases None a b = λ rows choice c. elim (cases rows choice c) [ inl x ↦ a rows choice x | inr x ↦ b rows choice x ]
  none_of_both A B C cases (Some best) a b = λ rows choice c. elim (cases rows choice c) [ inl x ↦ a rows choice x | inr x ↦ b rows choice x ]

  none_before_less : (Of : (ℕ → ℕ) → Choice → Type 0) (found : List ℕ) (best : Option (List ℕ)) → IsBefore found best → NoneBefore Of net turn places best
      → (rows : ℕ → ℕ) (choice : Choice) → Of rows choice → slice_cmp nat_cmp (numbers net turn places rows) found ≢ Less
  none_before_less Of found None before none = λ rows choice a. absurd (none rows choice a)
  none_before_less Of found (Some best) before none = λ rows choice a. not_before (numbers net turn places rows) found best before (none rows choice a)

  -- The first of some assignments is kept where it stands before the best.
  pub better_kept : (Of : (ℕ → ℕ) → Choice → Type 0) (found : List ℕ) (old new : Option (List ℕ)) → IsLeastOf Of net turn places found → IsKept old found new → IsBetter Of net turn places old new
  better_kept Of found old new least (inl kept) = inr (found, kept.0, least, kept.1)
  better_kept Of found old new least (inr same) = inl (same.0, none_behind Of found least.least old same.1)

  -- With no best before, the best is the first.
  pub better_first : (Of : (ℕ → ℕ) → Choice → Type 0) (new : Option (List ℕ)) → IsBetter Of net turn places None new → IsFirstOf Of net turn places new
  better_first Of new (inl same) = subst (λ (o : Option (List ℕ)). IsFirstOf Of net turn places o) (sym same.0) same.1
  better_first Of new (inr b) = subst (λ (o : Option (List ℕ)). IsFirstOf Of net turn places o) (sym b.1) b.2

  least_same : (A B : (ℕ → ℕ) → Choice → Type 0) → ((rows : ℕ → ℕ) (choice : Choice) → A rows choice → B rows choice) → ((rows : ℕ → ℕ) (choice : Choice) → B rows choice → A rows choice)
      → (found : List ℕ) → IsLeastOf A net turn places found → IsLeastOf B net turn places found
  least_same A B to back found f = record {
    rows = f.rows;
    choice = f.choice;
    is_of = to f.rows f.choice f.is_of;
    numbers_are = f.numbers_are;
    least = λ rows choice b. f.least rows choice (back rows choice b);
  }

  -- Where the same assignments are meant, the best is the same.
  pub better_same : (A B : (ℕ → ℕ) → Choice → Type 0) → ((rows : ℕ → ℕ) (choice : Choice) → A rows choice → B rows choice) → ((rows : ℕ → ℕ) (choice : Choice) → B rows choice → A rows choice)
      → (old new : Option (List ℕ)) → IsBetter A net turn places old new → IsBetter B net turn places old new
  better_same A B to back old new (inl same) = inl (same.0, none_fewer A B back old same.1)
  better_same A B to back old new (inr b) = inr (b.0, b.1, least_same A B to back b.0 b.2, b.3)

  module _ (A B C : (ℕ → ℕ) → Choice → Type 0) (left : (rows : ℕ → ℕ) (choice : Choice) → A rows choice → C rows choice) (right : (rows : ℕ → ℕ) (choice : Choice) → B rows choice → C rows choice)
      (cases : (rows : ℕ → ℕ) (choice : Choice) → C rows choice → A rows choice ⊎ B rows choice) where
    least_left : (found : List ℕ) → IsLeastOf A net turn places found → NoneBefore B net turn places (Some found) → IsLeastOf C net turn places found
    least_left found a none = record {
      rows = a.rows;
      choice = a.choice;
      is_of = left a.rows a.choice a.is_of;
      numbers_are = a.numbers_are;
      least = λ rows choice c. elim (cases rows choice c) [ inl x ↦ a.least rows choice x | inr x ↦ none rows choice x ];
    }

    least_right : (found : List ℕ) → IsLeastOf B net turn places found → NoneBefore A net turn places (Some found) → IsLeastOf C net turn places found
    least_right found b none = record {
      rows = b.rows;
      choice = b.choice;
      is_of = right b.rows b.choice b.is_of;
      numbers_are = b.numbers_are;
      least = λ rows choice c. elim (cases rows choice c) [ inl x ↦ none rows choice x | inr x ↦ b.least rows choice x ];
    }

    -- The best of one set, and then of another, is the best of both.
    pub better_of_two : (old mid new : Option (List ℕ)) → IsBetter A net turn places old mid → IsBetter B net turn places mid new → IsBetter C net turn places old new
    better_of_two old mid new (inl a) (inl b) =
        inl (b.0 ∙ a.0, none_of_both A B C cases old a.1 (subst (λ (o : Option (List ℕ)). NoneBefore B net turn places o) a.0 b.1))
    better_of_two old mid new (inr a) (inl b) =
        inr (a.0, b.0 ∙ a.1, least_left a.0 a.2 (subst (λ (o : Option (List ℕ)). NoneBefore B net turn places o) a.1 b.1), a.3)
    better_of_two old mid new (inl a) (inr b) =
        let before : IsBefore b.0 old = subst (IsBefore b.0) a.0 b.3 in
        inr (b.0, b.1, least_right b.0 b.2 (none_before_less A b.0 old before a.1), before)
    better_of_two old mid new (inr a) (inr b) =
        let before : IsBefore b.0 (Some a.0) = subst (IsBefore b.0) a.1 b.3 in
        inr (b.0, b.1, least_right b.0 b.2 (none_before_less A b.0 (Some a.0) before a.2.least), before_twice b.0 a.0 old before a.3)
