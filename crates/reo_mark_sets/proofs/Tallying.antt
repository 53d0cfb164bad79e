-- Tallies, number by number.
use Rattle.std.proofs.Common.{◌≡◌, ◌≢◌, ◌⊎◌, inl, inr, ℕ, ◌+◌, ◌<◌, ◌≤◌, Bool, true, false, refl, sym, ap, ◌∙◌, arith}
use Rattle.std.proofs.Math.Bool.{beq}
use Rattle.std.proofs.lemmas.Bool.{cases_eq}
use Rattle.reo_net_base.specs.Rows.{alike}
use Rattle.reo_mark_sets.specs.declared.tallies.Multiplicity.{Multiplicity}
use Rattle.reo_mark_sets.specs.declared.tallies.Multiplicity.TheVariants.{Nowhere, Once, Often}
use Rattle.reo_mark_sets.specs.Tallies.{HoldsOften, IsTally}

pub alike_same : (wanted is : Bool) → beq is wanted ≡ true → alike wanted is ≡ true
alike_same true true h = refl
alike_same true false h = cc
alike_same false true h = cc
alike_same false false h = refl

pub alike_other : (wanted is : Bool) → beq is wanted ≡ false → alike wanted is ≡ false
alike_other true true h = cc
alike_other true false h = refl
alike_other false true h = refl
alike_other false false h = cc

module _ (test : ℕ → Bool) (from n : ℕ) where
  at_last : (e : ℕ) → e < n + 1 → (e < n) ⊎ (e ≡ n)
  at_last e lt = elim (cases_eq e n) [ inl same ↦ inr same | inr other ↦ inl (omega arith) ]

  pub tally_skip : (t : Multiplicity) → test n ≡ false → IsTally test from n t → IsTally test from (n + 1) t
  tally_skip Nowhere fails is = λ e le lt. elim (at_last e lt) [ inl before ↦ is e le before | inr last ↦ ap test last ∙ fails ]
  tally_skip (Once i) fails is = record {
    after = is.after;
    in_range = omega (arith, is.in_range);
    here = is.here;
    alone = λ e le lt holds. elim (at_last e lt) [ inl before ↦ is.alone e le before holds | inr last ↦ let not : test n ≡ true = sym (ap test last) ∙ holds in cc ];
  }
  tally_skip Often fails is = record { one = is.one; other = is.other; after = is.after; before = is.before; in_range = omega (arith, is.in_range); here = is.here; there = is.there }

  pub tally_first : from ≤ n → test n ≡ true → IsTally test from n Nowhere → IsTally test from (n + 1) (Once n)
  tally_first from_le holds is = record {
    after = from_le;
    in_range = omega arith;
    here = holds;
    alone = λ e le lt too. elim (at_last e lt) [ inl before ↦ let not : test e ≡ false = is e le before in cc | inr last ↦ last ];
  }

  pub tally_often : (t : Multiplicity) (all : ℕ) → t ≢ Nowhere → test n ≡ true → n < all → IsTally test from n t → HoldsOften test from all
  tally_often Nowhere all some holds lt is = absurd (some refl)
  tally_often (Once i) all some holds lt is = record { one = i; other = n; after = is.after; before = is.in_range; in_range = lt; here = is.here; there = holds }
  tally_often Often all some holds lt is = record { one = is.one; other = is.other; after = is.after; before = is.before; in_range = omega (arith, is.in_range); here = is.here; there = is.there }
