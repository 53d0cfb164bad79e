-- Writing rows down at one side after another.
use Rattle.std.proofs.Common.{◌≡◌, ℕ, ◌+◌, ◌<◌, Bool, true, false, ◌||◌, List, [], ◌∷◌, ◌++◌, length, get_or, take, set, refl, sym, ◌∙◌, subst, arith, get_or-set_same, get_or-set_other, add-one}
use Rattle.std.proofs.lemmas.Bool.{eqb-true, eq-eqb}
use Rattle.std.specs.Bool.{◌==◌}
use Rattle.std.proofs.lemmas.List.{length-set}
use Rattle.reo_values.proofs.Sequences.{one_more}
use Rattle.reo_net_laws.specs.Sublists.{part_rows}
use Rattle.reo_propagate.specs.Queues.{among}
use Rattle.reo_propagate.proofs.Among.{among_more}
use Rattle.reo_search.proofs.Walked.{mapped_at}
use Rattle.reo_planning.specs.Written.{AreWritten}

-- Nothing is written down yet.
pub written_none : (from old : List ℕ) → AreWritten [] from old old
written_none from old = record { one_each = refl; here = λ s lt h. absurd cc; others = λ s h. refl }

module _ (sides from old now : List ℕ) (side row : ℕ) (lt : side < length old) (is : row ≡ get_or from side 0) (w : AreWritten sides from old now) where
  in_range : side < length now
  in_range = let n = w.one_each in omega (arith, n)

  or_none : (b : Bool) → (b || false) ≡ true → b ≡ true
  or_none true g = refl
  or_none false g = g

  not_right : (a b : Bool) → (a || b) ≡ false → b ≡ true → ⊥
  not_right true b g e = cc
  not_right false b g e = let wrong : true ≡ false = sym e ∙ g in cc

  not_left : (a b : Bool) → (a || b) ≡ false → a ≡ false
  not_left true b g = g
  not_left false b g = refl

  -- The row at a side that is among these, or is the new one.
  here_for : (s : ℕ) (t : Bool) → (side == s) ≡ t → s < length old → (among sides s || t) ≡ true → get_or (set now side row) s 0 ≡ get_or from s 0
  here_for s true e s_lt h =
      let same : side ≡ s = eqb-true side s e in
      subst (λ (k : ℕ). get_or (set now side row) k 0 ≡ get_or from k 0) same (get_or-set_same now side row 0 in_range ∙ is)
  here_for s false e s_lt h =
      get_or-set_other now side s row 0 (λ (same : s ≡ side). let e2 = eq-eqb side s (sym same) in let wrong : true ≡ false = sym e2 ∙ e in cc)
      ∙ w.here s s_lt (or_none (among sides s) h)

  other_for : (s : ℕ) → (among sides s || (side == s)) ≡ false → get_or (set now side row) s 0 ≡ get_or old s 0
  other_for s h =
      get_or-set_other now side s row 0 (λ (same : s ≡ side). not_right (among sides s) (side == s) h (eq-eqb side s (sym same)))
      ∙ w.others s (not_left (among sides s) (side == s) h)

  -- The row of one more side is written down.
  pub written_more : AreWritten (sides ++ side ∷ []) from old (set now side row)
  written_more = record {
    one_each = length-set now side row ∙ w.one_each;
    here = λ s s_lt h. here_for s (side == s) refl s_lt (sym (among_more sides side s) ∙ h);
    others = λ s h. other_for s (sym (among_more sides side s) ∙ h);
  }

-- The row of a part that stands at a place is that of its side.
pub row_at_side : (sides rows from : List ℕ) (m : ℕ) → m < length sides → rows ≡ part_rows sides from → get_or rows m 0 ≡ get_or from (get_or sides m 0) 0
row_at_side sides rows from m lt is =
    subst (λ (xs : List ℕ). get_or xs m 0 ≡ get_or from (get_or sides m 0) 0) (sym is) (mapped_at (λ side. get_or from side 0) sides m lt)

-- One place more of a list.
pub take_next : (xs : List ℕ) (m : ℕ) → m < length xs → take (m + 1) xs ≡ take m xs ++ get_or xs m 0 ∷ []
take_next xs m lt = rw add-one (one_more xs m lt)
