-- Flags that are set or cleared.
use Rattle.std.proofs.Common.{◌≡◌, ◌∙◌, inl, inr, ℕ, zero, suc, ◌<◌, Bool, true, false, List, [], ◌∷◌, length, get_or, set, refl, ap, sym, get_or-set_same}
use Rattle.std.proofs.lemmas.Bool.{cases_Bool, both_ways}
use Rattle.std.proofs.lemmas.List.{length-set}
use Rattle.reo_planning.specs.declared.kept.Kept.{Kept}
use Rattle.reo_planning.specs.Unsettling.{AreFewer}

-- A flag that is clear stays clear when another is cleared.
pub clear_still : (flags : List Bool) (i k : ℕ) → get_or flags k false ≡ false → get_or (set flags i false) k false ≡ false
clear_still [] i k h = h
clear_still (f ∷ fs) zero zero h = refl
clear_still (f ∷ fs) zero (suc k) h = h
clear_still (f ∷ fs) (suc i) zero h = h
clear_still (f ∷ fs) (suc i) (suc k) h = clear_still fs i k h

-- A flag that is set after another was cleared was set before.
pub set_before : (flags : List Bool) (i k : ℕ) → get_or (set flags i false) k false ≡ true → get_or flags k false ≡ true
set_before flags i k h = elim (cases_Bool (get_or flags k false)) [
  | inl yes_ ↦ yes_
  | inr not ↦ absurd (both_ways (get_or (set flags i false) k false) (clear_still flags i k not) h)
]

-- Nothing has changed.
pub fewer_none : (kept : Kept) → AreFewer kept kept
fewer_none kept = record { rows = refl; moving = refl; budget = refl; one_each = refl; fewer = λ k h. h }

-- First one part, and then others.
pub fewer_twice : (a b c : Kept) → AreFewer a b → AreFewer b c → AreFewer a c
fewer_twice a b c f g = record {
  rows = g.rows ∙ f.rows;
  moving = g.moving ∙ f.moving;
  budget = g.budget ∙ f.budget;
  one_each = g.one_each ∙ f.one_each;
  fewer = λ k h. f.fewer k (g.fewer k h);
}

module _ (old now : Kept) (part : ℕ) (fewer : AreFewer old now) where
  -- One part more is not settled.
  pub fewer_more : (settled : List Bool) → settled ≡ set now.settled part false → AreFewer old (record now { settled = settled })
  fewer_more settled is = record {
    rows = fewer.rows;
    moving = fewer.moving;
    budget = fewer.budget;
    one_each = ap length is ∙ length-set now.settled part false ∙ fewer.one_each;
    fewer = λ k h. fewer.fewer k (set_before now.settled part k (ap (λ (flags : List Bool). get_or flags k false) (sym is) ∙ h));
  }

-- That part is not settled.
pub cleared_here : (flags : List Bool) (i : ℕ) → i < length flags → get_or (set flags i false) i false ≡ false
cleared_here flags i lt = get_or-set_same flags i false false lt
