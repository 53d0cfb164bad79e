-- Lists that are brought place by place.
use Rattle.std.proofs.Common.{◌≡◌, ◌∙◌, inl, inr, ℕ, ◌+◌, ◌<◌, Bool, false, List, length, get_or, set, ap, sym, subst, refl, arith}
use Rattle.std.proofs.lemmas.Bool.{cases_eq}
use Rattle.std.proofs.lemmas.List.{get_or-set_other, get_or-set_same, length-set}
use Rattle.std.specs.Prelude.{if◌then◌else◌}
use Rattle.reo_net_base.specs.Net.{Net}
use Rattle.reo_net_laws.specs.Jams.{jams}
use Rattle.reo_trace.specs.cells.Texts.{jam_code}
use Rattle.reo_trace.specs.cells.Cells.{IsBrought, code_at}

module _ (told : ℕ → ℕ) (places : List ℕ) where
  pub none_yet : (old : List ℕ) → IsBrought told places 0 old old
  none_yet old = record {
    one_each = refl;
    brought = λ m lt. absurd (omega (arith, lt));
    stay = λ s h. h;
    others = λ s h. refl;
  }

  -- What is told at a place stays so where it is put at another.
  stays : (mid : List ℕ) (place item : ℕ) → place < length mid → item ≡ told place → (s : ℕ) → get_or mid s 0 ≡ told s → get_or (set mid place item) s 0 ≡ told s
  stays mid place item lt is s h =
      elim (cases_eq s place) [
        | inl e ↦ subst (λ (k : ℕ). get_or (set mid place item) k 0 ≡ told k) (sym e) (get_or-set_same mid place item 0 lt ∙ is)
        | inr apart ↦ get_or-set_other mid place s item 0 apart ∙ h
      ]

  pub one_more : (n item : ℕ) (old mid : List ℕ) → get_or places n 0 < length mid → item ≡ told (get_or places n 0) → IsBrought told places n old mid
      → IsBrought told places (n + 1) old (set mid (get_or places n 0) item)
  one_more n item old mid lt is far =
      let place : ℕ = get_or places n 0 in
      record {
        one_each = length-set mid place item ∙ far.one_each;
        brought = λ m within. elim (cases_eq m n) [
          | inl e ↦ subst (λ (k : ℕ). get_or (set mid place item) (get_or places k 0) 0 ≡ told (get_or places k 0)) (sym e) (get_or-set_same mid place item 0 lt ∙ is)
          | inr apart ↦ stays mid place item lt is (get_or places m 0) (far.brought m (omega (arith, within, apart)))
        ];
        stay = λ s h. stays mid place item lt is s (far.stay s h);
        others = λ s none. get_or-set_other mid place s item 0 (λ (e : s ≡ place). none n (omega arith) (sym e)) ∙ far.others s (λ m within. none m (omega (arith, within)));
      }

-- The code of a cell of a side that has no jam row.
pub plain_code : (net : Net) (rows : List ℕ) (s : ℕ) → jams net rows s ≡ false → get_or rows s 0 ≡ code_at net rows s
plain_code net rows s calm = ap (λ (t : Bool). if t then jam_code else get_or rows s 0) (sym calm)
