-- Bits that stay where those of other words have a value.
use Rattle.std.proofs.Common.{◌≡◌, ◌∙◌, inl, inr, ℕ, ◌+◌, ◌*◌, ◌/◌, ◌%◌, ◌<◌, ◌≤◌, Bool, true, false, not, List, length, get_or, set, refl, eqb, bit_and, ap, sym, arith}
use Rattle.std.proofs.lemmas.Bool.{cases_eq, cases_lt}
use Rattle.std.proofs.lemmas.List.{get_or-set_same, get_or-set_other, get_or_past, length-set}
use Rattle.std.proofs.lemmas.Nat.Bits.{bit_at-lt, bit_at_and}
use Rattle.std.specs.Int.{bit_at}
use Rattle.reo_flags.specs.Bits.{AreKeptBits, bit, bit_of, flags_of}
use Rattle.reo_flags.specs.Where.{AreKeptWhere}
use Rattle.reo_flags.proofs.Lists.{count_is, flag_is}
use Rattle.reo_flags.proofs.OneBit.{is_none}

-- No value is its own opposite.
not_same : (value : Bool) → value ≡ not value → ⊥
not_same true e = absurd (cc)
not_same false e = absurd (cc)

-- A bit of two words at once.
module _ (word having : ℕ) (value : Bool) (mark : Bool) (i : ℕ) (set_ : bit_at having i ≡ 1 → mark ≡ value) (clear : bit_at having i ≡ 0 → mark ≡ not value) where
  stays : mark ≡ value → bit_of (bit_and word having) i ≡ bit_of word i
  stays is =
      let small = bit_at-lt having i in
      let low = bit_at-lt word i in
      let both = bit_at_and word having i in
      elim (cases_eq (bit_at having i) 1) [
        | inl one ↦ ap (λ (d : ℕ). eqb d 1) (omega (arith, both, one, low))
        | inr other ↦ absurd (not_same value (sym is ∙ clear (omega (arith, small, other))))
      ]

  goes : mark ≡ not value → bit_of (bit_and word having) i ≡ false
  goes is =
      let small = bit_at-lt having i in
      let both = bit_at_and word having i in
      elim (cases_eq (bit_at having i) 1) [
        | inl one ↦ absurd (not_same value (sym (set_ one) ∙ is))
        | inr other ↦ is_none _ (omega (arith, both, small, other))
      ]

-- The bits of the first words stay where those of others have a value, and all others stay.
pub record AreKeptSoFar (value : Bool) (marks : List ℕ) (p : ℕ) (old new : List ℕ) : Type 0 where
  pub far : AreKeptBits value marks (64 * p) old new
  pub rest : (k : ℕ) → 64 * p ≤ k → bit new k ≡ bit old k

-- None yet.
pub kept_none : (value : Bool) (marks words : List ℕ) → AreKeptSoFar value marks 0 words words
kept_none value marks words = record {
  far = record { one_each = refl; kept = λ k lt. absurd (omega arith); gone = λ k lt. absurd (omega arith) };
  rest = λ k le. refl;
}

-- One word more.
module _ (value : Bool) (marks old words : List ℕ) (p having : ℕ) (so : AreKeptSoFar value marks p old words) (p_in : p < length words)
    (set_ : (i : ℕ) → i < 64 → bit_at having i ≡ 1 → bit_of (get_or marks p 0) i ≡ value)
    (clear : (i : ℕ) → i < 64 → bit_at having i ≡ 0 → bit_of (get_or marks p 0) i ≡ not value) where
  abbrev word : ℕ
  word = get_or words p 0

  abbrev new : List ℕ
  new = set words p (bit_and word having)

  here : (k : ℕ) → k / 64 ≡ p → bit new k ≡ bit_of (bit_and word having) (k % 64)
  here k e = ap (λ (m : ℕ). bit_of (get_or new m 0) (k % 64)) e ∙ ap (λ (w : ℕ). bit_of w (k % 64)) (get_or-set_same words p (bit_and word having) 0 p_in)

  there : (k : ℕ) → (k / 64 ≡ p → ⊥) → bit new k ≡ bit words k
  there k ne = ap (λ (w : ℕ). bit_of w (k % 64)) (get_or-set_other words p (k / 64) (bit_and word having) 0 ne)

  as_was : (k : ℕ) → k / 64 ≡ p → bit_of word (k % 64) ≡ bit old k
  as_was k e = ap (λ (m : ℕ). bit_of (get_or words m 0) (k % 64)) (sym e) ∙ so.rest k (omega (arith, e))

  mark_at : (k : ℕ) → k / 64 ≡ p → bit_of (get_or marks p 0) (k % 64) ≡ bit marks k
  mark_at k e = ap (λ (m : ℕ). bit_of (get_or marks m 0) (k % 64)) (sym e)

  pub kept_more : AreKeptSoFar value marks (p + 1) old new
  kept_more = record {
    far = record {
      one_each = length-set words p (bit_and word having) ∙ so.far.one_each;
      kept = λ k lt is. elim (cases_eq (k / 64) p) [
        | inl e ↦ here k e ∙ stays word having value (bit_of (get_or marks p 0) (k % 64)) (k % 64) (set_ (k % 64) (omega arith)) (clear (k % 64) (omega arith)) (mark_at k e ∙ is) ∙ as_was k e
        | inr ne ↦ there k ne ∙ so.far.kept k (omega (arith, lt, ne)) is
      ];
      gone = λ k lt is. elim (cases_eq (k / 64) p) [
        | inl e ↦ here k e ∙ goes word having value (bit_of (get_or marks p 0) (k % 64)) (k % 64) (set_ (k % 64) (omega arith)) (clear (k % 64) (omega arith)) (mark_at k e ∙ is)
        | inr ne ↦ there k ne ∙ so.far.gone k (omega (arith, lt, ne)) is
      ];
    };
    rest = λ k le. let ne : k / 64 ≡ p → ⊥ = λ e. omega (arith, le, e) in there k ne ∙ so.rest k (omega (arith, le));
  }

-- Flags stay where bits do.
pub kept_flags : (value : Bool) (n m : ℕ) (marks old new : List ℕ) → n ≤ m → AreKeptBits value marks m old new → AreKeptWhere value (flags_of n marks) (flags_of n old) (flags_of n new)
kept_flags value n m marks old new le are = record {
  one_each = count_is n new ∙ sym (count_is n old);
  kept = λ k is. elim (cases_lt k n) [
    | inl lt ↦ flag_is n new k lt ∙ are.kept k (omega arith) (sym (flag_is n marks k lt) ∙ is) ∙ sym (flag_is n old k lt)
    | inr ge ↦ get_or_past (flags_of n new) k false (omega (arith, count_is n new)) ∙ sym (get_or_past (flags_of n old) k false (omega (arith, count_is n old)))
  ];
  gone = λ k is. elim (cases_lt k n) [
    | inl lt ↦ flag_is n new k lt ∙ are.gone k (omega arith) (sym (flag_is n marks k lt) ∙ is)
    | inr ge ↦ get_or_past (flags_of n new) k false (omega (arith, count_is n new))
  ];
}
