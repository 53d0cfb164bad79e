-- The next bit of a value.
use Rattle.std.proofs.Common.{◌≡◌, ◌∙◌, inl, inr, ℕ, ◌+◌, ◌-◌, ◌*◌, ◌/◌, ◌%◌, ◌^◌, ◌<◌, ◌≤◌, min, Bool, not, List, length, get_or, ap, sym, arith, w64, div-one, div-le_self}
use Rattle.std.proofs.lemmas.Bool.{cases_lt}
use Rattle.std.proofs.lemmas.Nat.Bits.{bit_at-trailing_zeros, bit_at-zero, bit_at_above}
use Rattle.std.specs.Int.{bit_at, trailing_zeros}
use Rattle.reo_flags.specs.Bits.{IsNextBit, bit, bit_of, flags_of}
use Rattle.reo_flags.specs.Next.{IsNext}
use Rattle.reo_flags.proofs.Lists.{count_is, flag_is}
use Rattle.reo_flags.proofs.OneBit.{shifted}

-- No bit from one place on and before another has the value.
abbrev pub NoneBetween : Bool → List ℕ → ℕ → ℕ → Type 0
NoneBetween value words from to = (k : ℕ) → from ≤ k → k < to → bit words k ≡ not value

-- A bit of the row by its word.
pub bit_in : (words : List ℕ) (word k : ℕ) → k / 64 ≡ word → bit words k ≡ bit_of (get_or words word 0) (k % 64)
bit_in words word k e = ap (λ (m : ℕ). bit_of (get_or words m 0) (k % 64)) e

module _ (value : Bool) (words : List ℕ) (at having : ℕ) (at_in : at < length words) (fits : having < 2 ^ 64)
    (is : (i : ℕ) → i < 64 → bit_at having i ≡ 1 → bit_of (get_or words at 0) i ≡ value)
    (is_not : (i : ℕ) → i < 64 → bit_at having i ≡ 0 → bit_of (get_or words at 0) i ≡ not value) where
  -- A word of which no bit has the value.
  pub none_more : (from : ℕ) → having ≡ 0 → NoneBetween value words from (64 * at) → NoneBetween value words from (64 * (at + 1))
  none_more from none before k le lt = elim (cases_lt k (64 * at)) [
    | inl low ↦ before k le low
    | inr high ↦ bit_in words at k (omega arith) ∙ is_not (k % 64) (omega arith) (ap (λ (n : ℕ). bit_at n (k % 64)) none ∙ bit_at-zero (k % 64))
  ]

  -- A word of which some bit from a place on has the value.
  pub found_in : (low : ℕ) → low < 64 → 0 < having / 2 ^ low → having / 2 ^ low < 2 ^ 64 → IsNextBit value words (64 * at + low) (64 * at + low + trailing_zeros w64 (having / 2 ^ low))
  found_in low low_in some small =
      let rest : ℕ = having / 2 ^ low in
      let t : ℕ = trailing_zeros w64 rest in
      let least = bit_at-trailing_zeros w64 rest some small in
      let t_in = least.0 in
      let one : bit_at having (low + t) ≡ 1 = sym (shifted having low t) ∙ least.1 in
      let inside : low + t < 64 = elim (cases_lt (low + t) 64) [
        | inl lt ↦ lt
        | inr ge ↦ absurd (let none = bit_at_above having 64 (low + t) fits ge in omega arith)
      ] in
      record {
        from_on = omega arith;
        in_range = omega arith;
        none_before = λ k le lt.
            bit_in words at k (omega arith)
            ∙ is_not (k % 64) (omega arith) (let e : k % 64 ≡ low + (k - (64 * at + low)) = omega arith in
            ap (bit_at having) e ∙ sym (shifted having low (k - (64 * at + low))) ∙ least.2 (k - (64 * at + low)) (omega arith));
        here = λ lt.
            let e : (64 * at + low + t) % 64 ≡ low + t = omega arith in
            bit_in words at (64 * at + low + t) (omega arith) ∙ ap (bit_of (get_or words at 0)) e ∙ is (low + t) inside one;
      }

  -- A word of which no bit from a place on has the value.
  pub none_from : (low : ℕ) → low < 64 → having / 2 ^ low ≡ 0 → NoneBetween value words (64 * at + low) (64 * (at + 1))
  none_from low low_in none k le lt =
      bit_in words at k (omega arith)
      ∙ is_not (k % 64) (omega arith) (let e : k % 64 ≡ low + (k - (64 * at + low)) = omega arith in
      ap (bit_at having) e ∙ sym (shifted having low (k - (64 * at + low))) ∙ ap (λ (n : ℕ). bit_at n (k - (64 * at + low))) none ∙ bit_at-zero (k - (64 * at + low)))

-- The first bit that has the value in a word of which some has.
pub first_in : (value : Bool) (words : List ℕ) (at having : ℕ) → at < length words → having < 2 ^ 64
    → ((i : ℕ) → i < 64 → bit_at having i ≡ 1 → bit_of (get_or words at 0) i ≡ value)
    → ((i : ℕ) → i < 64 → bit_at having i ≡ 0 → bit_of (get_or words at 0) i ≡ not value)
    → 0 < having → IsNextBit value words (64 * at) (64 * at + trailing_zeros w64 having)
first_in value words at having at_in fits is is_not some =
    let whole : having / 2 ^ 0 ≡ having = div-one having in
    let start : 64 * at + 0 ≡ 64 * at = omega arith in
    rw (whole, start) at (found_in value words at having at_in fits is is_not 0 (omega arith) (omega (arith, whole)) (omega (arith, whole)))

module _ (value : Bool) (words : List ℕ) (from having : ℕ) (from_in : from < 64 * length words) (fits : having < 2 ^ 64)
    (is : (i : ℕ) → i < 64 → bit_at having i ≡ 1 → bit_of (get_or words (from / 64) 0) i ≡ value)
    (is_not : (i : ℕ) → i < 64 → bit_at having i ≡ 0 → bit_of (get_or words (from / 64) 0) i ≡ not value) where
  -- The first bit that has the value from a place on, where its word has one.
  pub found_from : 0 < having / 2 ^ (from % 64) → IsNextBit value words from (from + trailing_zeros w64 (having / 2 ^ (from % 64)))
  found_from some =
      let low : ℕ = from % 64 in
      let small = div-le_self having (2 ^ low) in
      let here : 64 * (from / 64) + low ≡ from = omega arith in
      rw here at (found_in value words (from / 64) having (omega arith) fits is is_not low (omega arith) some (omega arith))

  -- None has the value from a place on, where its word has none.
  pub none_here : having / 2 ^ (from % 64) ≡ 0 → NoneBetween value words from (64 * (from / 64 + 1))
  none_here none =
      let here : 64 * (from / 64) + from % 64 ≡ from = omega arith in
      rw here at (none_from value words (from / 64) having (omega arith) fits is is_not (from % 64) (omega arith) none)

module _ (value : Bool) (words : List ℕ) where
  -- What is next after places of which none has the value.
  pub next_after : (from mid place : ℕ) → from ≤ mid → NoneBetween value words from mid → IsNextBit value words mid place → IsNextBit value words from place
  next_after from mid place le none next =
      let on = next.from_on in
      record {
        from_on = omega arith;
        in_range = next.in_range;
        none_before = λ k low high. elim (cases_lt k mid) [
          | inl lt ↦ none k low lt
          | inr ge ↦ next.none_before k ge high
        ];
        here = next.here;
      }

  -- None has the value.
  pub none_at_all : (from : ℕ) → from ≤ 64 * length words → NoneBetween value words from (64 * length words) → IsNextBit value words from (64 * length words)
  none_at_all from le none = record {
    from_on = le;
    in_range = omega arith;
    none_before = none;
    here = λ lt. absurd (omega arith);
  }

  -- The next flag is the next bit, where that is one of the flags.
  pub next_flag : (n from place : ℕ) → n ≤ 64 * length words → IsNextBit value words from place → IsNext value (flags_of n words) from (min place n)
  next_flag n from place enough next =
      let on = next.from_on in
      let long = count_is n words in
      record {
        from_on = omega arith;
        in_range = omega arith;
        none_before = λ k le lt. flag_is n words k (omega arith) ∙ next.none_before k le (omega arith);
        here = λ lt.
            let e : min place n ≡ place = omega arith in
            flag_is n words (min place n) (omega arith) ∙ ap (bit words) e ∙ next.here (omega arith);
      }

  -- Past the flags there is none.
  pub next_past : (n from : ℕ) → n ≤ from → IsNext value (flags_of n words) from n
  next_past n from le =
      let long = count_is n words in
      record {
        from_on = omega arith;
        in_range = omega arith;
        none_before = λ k low high. absurd (omega arith);
        here = λ lt. absurd (omega arith);
      }
