-- Clearing flags.
use Rattle.std.proofs.Common.{◌≡◌, ◌≢◌, ◌⊎◌, ◌↔◌, inl, inr, ℕ, ◌≤◌, Bool, true, false, not, ◌&&◌, List, [], length, refl, sym, ◌∙◌, subst, arith}
use Rattle.std.specs.Bool.{◌==◌}
use Rattle.std.proofs.lemmas.Bool.{cases_eq, both_ways, and_parts, eq-eqb, ne_eqb}
use Rattle.std.proofs.lemmas.List.{get_or_past}
use Rattle.reo_rows.specs.RowFlags.{flag, AreAlikeTables}
use Rattle.reo_rows.proofs.Clearing.{and_no, gone_of}
use Rattle.reo_propagate.specs.declared.thinning.Loss.{Loss}
use Rattle.reo_propagate.specs.Narrow.{IsCut}

-- Of a table one flag was cleared.
abbrev pub IsCleared : ℕ → ℕ → List (List Bool) → List (List Bool) → Type 0
IsCleared i p old new = (k q : ℕ) → flag new k q ≡ (flag old k q && not ((k == i) && (q == p)))

module _ (i p : ℕ) (old new : List (List Bool)) (is : IsCleared i p old new) where
  pub was_set : (k q : ℕ) → flag new k q ≡ true → flag old k q ≡ true
  was_set k q h = (and_parts (flag old k q) (not ((k == i) && (q == p))) (sym (is k q) ∙ h)).0

  pub other_row : (k q : ℕ) → k ≢ i → flag new k q ≡ flag old k q
  other_row k q ne = is k q ∙ and_no (flag old k q) (k == i) (q == p) (inl (ne_eqb k i ne))

  pub other_place : (k q : ℕ) → q ≢ p → flag new k q ≡ flag old k q
  other_place k q ne = is k q ∙ and_no (flag old k q) (k == i) (q == p) (inr (ne_eqb q p ne))

  pub cleared : flag new i p ≡ false
  cleared = is i p ∙ rw (eq-eqb i i refl, eq-eqb p p refl) (gone_of (flag old i p))

-- Past the last row no flag is set.
pub no_flag : (table : List (List Bool)) (i p : ℕ) → length table ≤ i → flag table i p ≡ false
no_flag table i p past = rw (get_or_past table i [] past) refl

pub cut_none : (joint : ℕ) (table : List (List Bool)) (loss : Loss) → IsCut joint table table loss
cut_none joint table loss = record {
  alike = record { rows = refl; width = λ r. refl };
  less = λ i p h. h;
  elsewhere = λ i p ne. refl;
  same = λ e p. refl;
  flows = λ e p le. refl;
}

-- One value more is lost.
pub cut_more : (joint code : ℕ) (old now new : List (List Bool)) (loss more : Loss) → IsCut joint old now loss → AreAlikeTables now new → IsCleared joint code now new
    → more.some ≡ true → (more.flow ≡ true) ↔ ((loss.flow ≡ true) ⊎ (4 ≤ code)) → IsCut joint old new more
cut_more joint code old now new loss more cut alike is some flow = record {
  alike = record { rows = alike.rows ∙ cut.alike.rows; width = λ r. alike.width r ∙ cut.alike.width r };
  less = λ i p h. cut.less i p (was_set joint code now new is i p h);
  elsewhere = λ i p ne. other_row joint code now new is i p ne ∙ cut.elsewhere i p ne;
  same = λ e. absurd (both_ways more.some e some);
  flows = λ e p le.
      let before : loss.flow ≡ false = elim (loss.flow) as (λ b. loss.flow ≡ b → b ≡ false) [ true ↦ λ t. absurd (both_ways more.flow e (flow.1 (inl t))) | false ↦ λ t. refl ] refl in
      let ne : p ≢ code = λ is_code. both_ways more.flow e (flow.1 (inr (omega (arith, le, is_code)))) in
      other_place joint code now new is joint p ne ∙ cut.flows before p le;
}

-- Nothing went.
pub same_all : (joint : ℕ) (old now : List (List Bool)) (loss : Loss) → IsCut joint old now loss → loss.some ≡ false → (i p : ℕ) → flag now i p ≡ flag old i p
same_all joint old now loss cut is i p = elim (cases_eq i joint) [
  | inl e ↦ subst (λ (k : ℕ). flag now k p ≡ flag old k p) (sym e) (cut.same is p)
  | inr ne ↦ cut.elsewhere i p ne
]
