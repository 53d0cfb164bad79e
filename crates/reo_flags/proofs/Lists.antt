-- Bits of a row of words as a list.
use Rattle.std.proofs.Common.{◌≡◌, ◌∙◌, inl, inr, ℕ, ◌*◌, ◌/◌, ◌%◌, ◌<◌, ◌≤◌, Bool, false, List, length, get_or, set, replicate, ap, sym, arith}
use Rattle.std.proofs.lemmas.Bool.{cases_eq}
use Rattle.std.proofs.lemmas.List.{length-set, length-replicate, get_or-replicate, get_or-set_same, get_or-set_other}
use Rattle.std.proofs.lemmas.List.FromFn.{fill_by_all, get_or-map-range_with_len, length-map-range_with_len}
use Rattle.reo_flags.specs.Bits.{bit, bit_of, flags_of}

-- There are as many flags as are counted.
pub count_is : (n : ℕ) (words : List ℕ) → length (flags_of n words) ≡ n
count_is n words = length-map-range_with_len (bit words) 0 n

-- A flag is the bit of its place.
pub flag_is : (n : ℕ) (words : List ℕ) (k : ℕ) → k < n → get_or (flags_of n words) k false ≡ bit words k
flag_is n words k lt = get_or-map-range_with_len (bit words) 0 n k k false lt (omega arith)

-- Flags that are all alike.
pub all_alike : (n : ℕ) (words : List ℕ) (value : Bool) → ((k : ℕ) → k < n → bit words k ≡ value) → flags_of n words ≡ replicate n value
all_alike n words value each =
    sym (fill_by_all (bit words) (replicate n value) n false (length-replicate n value) (λ k lt. get_or-replicate n k value false lt ∙ sym (each k lt)))

-- The bits of words that are all alike.
pub alike_words : (words : List ℕ) (count word : ℕ) (value : Bool) → words ≡ replicate count word → ((i : ℕ) → i < 64 → bit_of word i ≡ value) → (k : ℕ) → k < 64 * count → bit words k ≡ value
alike_words words count word value is each k lt =
    ap (λ (ws : List ℕ). bit ws k) is ∙ ap (λ (w : ℕ). bit_of w (k % 64)) (get_or-replicate count (k / 64) word 0 (omega arith)) ∙ each (k % 64) (omega arith)

module _ (n : ℕ) (words : List ℕ) (place word : ℕ) (value : Bool) (enough : n ≤ 64 * length words) (place_in : place < n) (here : bit_of word (place % 64) ≡ value)
    (others : (i : ℕ) → i < 64 → (i ≡ place % 64 → ⊥) → bit_of word i ≡ bit_of (get_or words (place / 64) 0) i) where
  -- The bits after one word was written.
  other_bit : (k : ℕ) → (k ≡ place → ⊥) → bit (set words (place / 64) word) k ≡ bit words k
  other_bit k ne = elim (cases_eq (k / 64) (place / 64)) [
    | inl e ↦
        ap (λ (m : ℕ). bit_of (get_or (set words (place / 64) word) m 0) (k % 64)) e
        ∙ ap (λ (w : ℕ). bit_of w (k % 64)) (get_or-set_same words (place / 64) word 0 (omega arith))
        ∙ others (k % 64) (omega arith) (λ same. ne (omega arith))
        ∙ ap (λ (m : ℕ). bit_of (get_or words m 0) (k % 64)) (sym e)
    | inr apart ↦ ap (λ (w : ℕ). bit_of w (k % 64)) (get_or-set_other words (place / 64) (k / 64) word 0 apart)
  ]

  this_bit : bit (set words (place / 64) word) place ≡ value
  this_bit = ap (λ (w : ℕ). bit_of w (place % 64)) (get_or-set_same words (place / 64) word 0 (omega arith)) ∙ here

  -- One flag has another value.
  pub one_put : flags_of n (set words (place / 64) word) ≡ set (flags_of n words) place value
  one_put =
      let each : (k : ℕ) → k < n → get_or (set (flags_of n words) place value) k false ≡ bit (set words (place / 64) word) k =
      λ k lt. elim (cases_eq k place) [
        | inl e ↦
            ap (λ (m : ℕ). get_or (set (flags_of n words) place value) m false) e
            ∙ get_or-set_same (flags_of n words) place value false (omega (arith, count_is n words))
            ∙ sym (ap (λ (m : ℕ). bit (set words (place / 64) word) m) e ∙ this_bit)
        | inr ne ↦ get_or-set_other (flags_of n words) place k value false ne ∙ flag_is n words k lt ∙ sym (other_bit k ne)
      ] in
      sym (fill_by_all (bit (set words (place / 64) word)) (set (flags_of n words) place value) n false (length-set (flags_of n words) place value ∙ count_is n words) each)
