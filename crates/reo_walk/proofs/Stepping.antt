-- The steps of a walk.
use Rattle.std.proofs.Common.{◌≡◌, inl, inr, ℕ, ◌+◌, ◌<◌, Bool, true, List, [], ◌∷◌, ◌++◌, length, refl, ap, sym, ◌∙◌, subst, arith, length-append}
use Rattle.std.proofs.lemmas.Bool.{cases_lt, and_parts}
use Rattle.reo_net_base.specs.Net.{Net, all_sides}
use Rattle.reo_net_base.specs.Wired.{IsWired}
use Rattle.reo_net_laws.specs.Ends.{IsRowOf}
use Rattle.reo_joint_values.specs.declared.value.JointValue.{JointValue}
use Rattle.reo_joint_values.specs.Values.{Names, Family, AtSide}
use Rattle.reo_joint_values.specs.Supported.{IsUsed, IsSettledAt, IsSupported, IsNarrowed}
use Rattle.reo_joint_values.specs.Chosen.{IsChosen}
use Rattle.reo_joint_values.specs.Works.{RowWorks}
use Rattle.reo_joint_values.proofs.Works.{used_row}
use Rattle.reo_joint_values.proofs.Narrowing.{chosen_stays, chosen_was}
use Rattle.reo_support.proofs.Rows.{row_stands}
use Rattle.reo_net_base.specs.declared.mark.Mark.{Mark}
use Rattle.reo_side_tables.specs.Marks.{mark_at_joint}
use Rattle.reo_rows.specs.Stands.{value_mark}
use Rattle.reo_walk.specs.declared.place.KeyPlace.{KeyPlace}
use Rattle.reo_walk.specs.Places.{side_of_place, number_of, numbers, suits, is_at_side, value_suits, held_to}
use Rattle.reo_walk.specs.Settling.{HasNone, Settling}
use Rattle.reo_walk.specs.Walking.{IsWalked, IsWalking, IsStuck, IsStepped}
use Rattle.reo_walk.proofs.Numbering.{both, then_if, test_at, fit_mark, all_suit}
use Rattle.reo_walk.proofs.Settling.{walk_more, next_some, one_less}

empty_numbers : (net : Net) (turn : ℕ) (places : List KeyPlace) (chosen : List ℕ) (rows : ℕ → ℕ) → 0 ≡ length places → length chosen ≡ length places → numbers net turn places rows ≡ chosen
empty_numbers net turn [] [] rows e n = refl
empty_numbers net turn [] (c ∷ cs) rows e n = absurd (omega arith)
empty_numbers net turn (p ∷ ps) chosen rows e n = absurd (omega arith)

-- The beginning, after narrowing.
pub walk_begin : (net : Net) (names : Names) (inside : ℕ → Bool) (turn : ℕ) (start now : Family) → IsNarrowed net names inside start now → ((j : ℕ) (v : JointValue) → now j v ≡ true → start j v ≡ true) → IsSupported net names inside now
    → IsWalking net names inside turn start now [] []
walk_begin net names inside turn start now narrowed less supported = record {
  settling = record {
    old = λ rows choice a. chosen_was net names inside start now rows choice narrowed.smaller a;
    has = λ rows choice a. refl;
    keeps = λ rows choice a e. chosen_stays net names inside start now rows choice narrowed a;
    least = λ rows choice a e. cc;
  };
  supported = supported;
  less = less;
  count = refl;
  some = λ lt knot one. absurd (omega arith);
}

module _ (net : Net) (wired : IsWired net) (names : Names) (inside : ℕ → Bool) (turn : ℕ) (start now : Family) (places : List KeyPlace) (chosen : List ℕ) (w : IsWalking net names inside turn start now places chosen) where
  -- One more place.
  pub walking_more : (next : Family) (p : KeyPlace) (number : ℕ) → side_of_place p < length (all_sides net.primitives) → inside (side_of_place p) ≡ true → IsStepped net names inside turn p now next number
      → IsWalking net names inside turn start next (places ++ p ∷ []) (chosen ++ number ∷ [])
  walking_more next p number side_in is_in s = record {
    settling = subst (λ (n : ℕ). Settling (IsChosen net names inside start) (IsChosen net names inside next) net turn (places ++ p ∷ []) (chosen ++ n ∷ [])) s.number_is
        (walk_more net wired names inside turn start now next places chosen p s.row side_in is_in s.in_table s.narrowed w.count w.settling s.least);
    supported = s.supported;
    less = λ j v h. w.less j v (s.less j v h);
    count = length-append chosen (number ∷ []) ∙ ap (λ k. k + 1) w.count ∙ sym (length-append places (p ∷ []));
    some = λ lt knot one. next_some net wired names inside turn start now next places chosen p s.row side_in is_in s.in_table s.narrowed knot w.supported (one_less net inside start now w.less one) s.works;
  }

  -- Nothing is left: then nothing was there, if each loop joint had one value.
  pub walk_stuck : HasNone net names inside now → IsStuck net names inside start
  walk_stuck none knot one rows choice a = elim (cases_lt 0 (length places)) [
    | inl lt ↦ let c = w.some lt knot one in none c.rows c.choice c.chosen
    | inr ge ↦ none rows choice (w.settling.keeps rows choice a (empty_numbers net turn places chosen rows (omega arith) w.count))
  ]

  -- The end: a row works at a side.
  pub walk_end : (side row : ℕ) → inside side ≡ true → RowWorks net names now side row → IsWalked net names inside turn start now places chosen
  walk_end side row is works = record {
    settling = w.settling;
    supported = w.supported;
    less = w.less;
    some = λ knot one.
        let s = row_stands net wired names inside now knot w.supported one side row is works in
        record { rows = s.1.rows; choice = s.1.choice; chosen = s.1.chosen };
  }

-- Where all rows that work at a settled side have one number, each value there suits them.
module _ (net : Net) (wired : IsWired net) (names : Names) (inside : ℕ → Bool) (turn : ℕ) (p : KeyPlace) (now : Family) (row : ℕ)
    (side_in : side_of_place p < length (all_sides net.primitives)) (in_table : IsRowOf net (side_of_place p) row)
    (settled : IsSettledAt net names now (side_of_place p)) (alone : (r : ℕ) → RowWorks net names now (side_of_place p) r → number_of net turn p r ≡ number_of net turn p row) where
  suits_here : (j : ℕ) (v : JointValue) → j < length net.joints → AtSide net j (side_of_place p) → now j v ≡ true → suits p (value_mark net (side_of_place p) j v) (mark_at_joint net (side_of_place p) row j) ≡ true
  suits_here j v lt at has =
      let u : IsUsed net names now (side_of_place p) j v = settled j v lt at has in
      let works = used_row net wired names now (side_of_place p) j v lt at u in
      subst (λ (x : JointValue). suits p (value_mark net (side_of_place p) j x) (mark_at_joint net (side_of_place p) row j) ≡ true) u.chosen
      (subst (λ (m : Mark). suits p m (mark_at_joint net (side_of_place p) row j) ≡ true) (sym (fit_mark net wired names u.choice (side_of_place p) u.row j u.fits lt at))
      (all_suit net wired turn p side_in u.row row works.in_table in_table (alone u.row works) j lt at))

  pub held_already : IsNarrowed net names inside (held_to net p row now) now
  held_already = record {
    smaller = λ j side v lt at is h.
        both (now j v) (value_suits net p row j v) h
        (then_if (is_at_side net (side_of_place p) j) (suits p (value_mark net (side_of_place p) j v) (mark_at_joint net (side_of_place p) row j)) (λ t. suits_here j v lt (test_at net (side_of_place p) j t) h));
    keeps = λ family within supported j side v lt at is h. (and_parts (now j v) (value_suits net p row j v) (within j side v lt at is h)).0;
  }
