-- What a search by name finds, by the number of the name.
use Rattle.std.proofs.Common.{arith, ◌≡◌, ◌∙◌, ℕ, ◌+◌, ◌<◌, ◌≤◌, suc, List, [], ◌∷◌, length, get_or, map, Bool, true, false, not, cond, Some, None, find, position, refl, sym, ap, bytes_eq}
use Rattle.std.proofs.lemmas.Bool.{ltb-false}
use Rattle.std.specs.Prelude.{unwrap_or}
use Rattle.std.specs.List.{prefix_len}
use Rattle.std.proofs.lemmas.List.Sums.{prefix_len-le-length}
use Rattle.std.proofs.lemmas.List.Quantifiers.{position-Some}
use Rattle.reo_unfold.proofs.Sequences.{at_place, at_none}
use Rattle.reo_flat.specs.Unfolding.{Meaning, no_meaning, meaning_named}
use Rattle.reo_rules.proofs.Mapped.{position-map}

module _ {X : Type 0} (p : X → Bool) (d : X) where
  one_on : (x : X) (xs : List X) (n : ℕ) → get_or xs n d ≡ get_or (x ∷ xs) (1 + n) d
  one_on x xs n =
      let more : suc n ≡ 1 + n = omega arith in
      ap (λ k. get_or (x ∷ xs) k d) more

  pub found_at : (xs : List X) → unwrap_or (find p xs) d ≡ get_or xs (prefix_len (λ x. not (p x)) xs) d
  found_at [] = refl
  found_at (x ∷ xs) =
      elim (p x) as (λ b. unwrap_or (cond b (Some x) (find p xs)) d ≡ get_or (x ∷ xs) (cond (not b) (1 + prefix_len (λ y. not (p y)) xs) 0) d)
      [ true ↦ refl | false ↦ found_at xs ∙ one_on x xs _ ]

  past : (ys : List X) → get_or ys (length ys) d ≡ d
  past [] = refl
  past (y ∷ ys) = past ys

  pub none_found : (xs : List X) → length xs ≤ prefix_len (λ x. not (p x)) xs → unwrap_or (find p xs) d ≡ d
  none_found xs all =
      let within = prefix_len-le-length (λ x. not (p x)) xs in
      let same : prefix_len (λ x. not (p x)) xs ≡ length xs = omega arith in
      found_at xs ∙ ap (λ k. get_or xs k d) same ∙ past xs

module _ (known : List Meaning) (names : List (List ℕ)) (name : List ℕ) (are : names ≡ map (λ (m : Meaning). m.name) known) where
  number : position (bytes_eq name) names ≡ position (λ (m : Meaning). bytes_eq name m.name) known
  number = ap (position (bytes_eq name)) are ∙ position-map (λ (m : Meaning). m.name) (bytes_eq name) known

  -- The connector with a number is the one of the name.
  pub meaning_at : (n : ℕ) → position (bytes_eq name) names ≡ Some n → (n < length known) × (meaning_named known name ≡ get_or known n no_meaning)
  meaning_at n is =
      let there = sym number ∙ is in
      let place = at_place _ _ n there in (
        (position-Some (λ (m : Meaning). bytes_eq name m.name) known n no_meaning there).0,
        found_at (λ (m : Meaning). bytes_eq name m.name) no_meaning known ∙ ap (λ k. get_or known k no_meaning) place,
      )

  -- A name without a number is that of no connector.
  pub meaning_none : position (bytes_eq name) names ≡ None → meaning_named known name ≡ no_meaning
  meaning_none is =
      none_found (λ (m : Meaning). bytes_eq name m.name) no_meaning known (ltb-false _ _ (at_none _ _ (sym number ∙ is)))
