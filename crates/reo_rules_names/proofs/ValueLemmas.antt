-- Values beside names that grow side by side.
use Rattle.std.proofs.Common.{arith, ◌≡◌, ◌∙◌, ℕ, ◌+◌, ◌<◌, suc, List, [], ◌∷◌, ◌++◌, length, get_or, Bool, true, false, not, cond, ◌||◌, Some, None, refl, sym, ap, subst, bytes_eq, position}
use Rattle.std.proofs.lemmas.Bool.{ltb-false}
use Rattle.std.specs.List.{prefix_len}
use Rattle.std.specs.Prelude.{slice_get, map}
use Rattle.std.proofs.lemmas.List.{get_or_past, length-map, map-append}
use Rattle.std.proofs.lemmas.Option.{get_or_from_slice_get, slice_get-get_or}
use Rattle.std.proofs.lemmas.List.Quantifiers.{position-Some}
use Rattle.reo_values.proofs.Sequences.{at_place, at_none}
use Rattle.reo_rules.specs.Lists.{has_name}
use Rattle.reo_rules_names.specs.SameNames.{SameNames}
use Rattle.reo_rules_names.specs.Values.{value_at}
use Rattle.reo_rules.specs.Names.{with_name}
use Rattle.reo_rules_names.proofs.SameLemmas.{has_same, same_noted}

module _ {V : Type 0} (d : V) (name : List ℕ) where
  one_on : (v : V) (vs : List V) (n : ℕ) → get_or vs n d ≡ get_or (v ∷ vs) (1 + n) d
  one_on v vs n =
      let more : suc n ≡ 1 + n = omega arith in
      ap (λ k. get_or (v ∷ vs) k d) more

  value_at-is : (ns : List (List ℕ)) (vs : List V) → length ns ≡ length vs → value_at d ns vs name ≡ get_or vs (prefix_len (λ n. not (bytes_eq name n)) ns) d
  value_at-is [] [] same = refl
  value_at-is [] (v ∷ vs) same = absurd (omega arith)
  value_at-is (n ∷ ns) [] same = absurd (omega arith)
  value_at-is (n ∷ ns) (v ∷ vs) same =
      elim (bytes_eq name n) as (λ b. cond b v (value_at d ns vs name) ≡ get_or (v ∷ vs) (cond (not b) (1 + prefix_len (λ m. not (bytes_eq name m)) ns) 0) d)
      [ true ↦ refl | false ↦ value_at-is ns vs (omega arith) ∙ one_on v vs _ ]

  -- The value beside a name with a number.
  value_at-Some : (ns : List (List ℕ)) (vs : List V) (n : ℕ) → length ns ≡ length vs → position (bytes_eq name) ns ≡ Some n → (n < length vs) × (value_at d ns vs name ≡ get_or vs n d)
  value_at-Some ns vs n same is =
      let within = (position-Some (bytes_eq name) ns n [] is).0 in (
        omega (arith, within),
        value_at-is ns vs same ∙ ap (λ k. get_or vs k d) (at_place _ _ n is),
      )

  pub value_found : (ns : List (List ℕ)) (vs : List V) (n : ℕ) (v : V) → length ns ≡ length vs → position (bytes_eq name) ns ≡ Some n → slice_get vs n ≡ Some v → value_at d ns vs name ≡ v
  value_found ns vs n v same is at = (value_at-Some ns vs n same is).1 ∙ get_or_from_slice_get vs n v d at

  pub value_lost : (ns : List (List ℕ)) (vs : List V) (n : ℕ) → length ns ≡ length vs → position (bytes_eq name) ns ≡ Some n → slice_get vs n ≡ None → ⊥
  value_lost ns vs n same is at =
      let there = slice_get-get_or vs n d (value_at-Some ns vs n same is).0 in
      cc

  -- A name without a number has none.
  pub value_at-None : (ns : List (List ℕ)) (vs : List V) → length ns ≡ length vs → position (bytes_eq name) ns ≡ None → value_at d ns vs name ≡ d
  value_at-None ns vs same is =
      let past = ltb-false _ _ (at_none _ _ is) in
      value_at-is ns vs same ∙ get_or_past vs _ d (omega (arith, past))

  -- A name that is not there has none.
  value_at-other : (ns : List (List ℕ)) (vs : List V) → has_name ns name ≡ false → value_at d ns vs name ≡ d
  value_at-other [] vs other = refl
  value_at-other (n ∷ ns) [] other = refl
  value_at-other (n ∷ ns) (v ∷ vs) other = step (bytes_eq name n) (value_at-other ns vs) other where
    step : (b : Bool) → (has_name ns name ≡ false → value_at d ns vs name ≡ d) → (b || has_name ns name) ≡ false → cond b v (value_at d ns vs name) ≡ d
    step true rest is = absurd (cc)
    step false rest is = rest is

  -- The value after one more name with its value.
  pub value_at-push : (ns : List (List ℕ)) (vs : List V) (k : List ℕ) (v : V) → length ns ≡ length vs → value_at d (ns ++ k ∷ []) (vs ++ v ∷ []) name ≡ cond (has_name ns name) (value_at d ns vs name) (cond (bytes_eq name k) v d)
  value_at-push [] [] k v same = refl
  value_at-push [] (x ∷ xs) k v same = absurd (omega arith)
  value_at-push (n ∷ ns) [] k v same = absurd (omega arith)
  value_at-push (n ∷ ns) (x ∷ xs) k v same =
      elim (bytes_eq name n) as (λ b. cond b x (value_at d (ns ++ k ∷ []) (xs ++ v ∷ []) name) ≡ cond (b || has_name ns name) (cond b x (value_at d ns xs name)) (cond (bytes_eq name k) v d))
      [ true ↦ refl | false ↦ value_at-push ns xs k v (omega arith) ]

  -- One more name that is there already changes no value.
  pub value_at-there : (ns : List (List ℕ)) (vs : List V) (k : List ℕ) (v : V) → length ns ≡ length vs → has_name ns k ≡ true → value_at d (ns ++ k ∷ []) (vs ++ v ∷ []) name ≡ value_at d ns vs name
  value_at-there ns vs k v same there = value_at-push ns vs k v same ∙ step (has_name ns name) refl (bytes_eq name k) refl where
    step : (a : Bool) → has_name ns name ≡ a → (b : Bool) → bytes_eq name k ≡ b → cond a (value_at d ns vs name) (cond b v d) ≡ value_at d ns vs name
    step true is b at = refl
    step false is false at = sym (value_at-other ns vs is)
    step false is true at = absurd (apart is (has_same ns k name at there)) where
      apart : {x : Bool} → x ≡ false → x ≡ true → ⊥
      apart no' yes' = cc

-- Two tables whose values go together at each name go together after one more.
module _ {V W : Type 0} (d : V) (e : W) (R : V → W → Type 0) (none : R d e) where
  pub beside_pushed : (ns ms : List (List ℕ)) (vs : List V) (ws : List W) (k : List ℕ) (v : V) (w : W) → length ns ≡ length vs → length ms ≡ length ws → SameNames ns ms
      → ((name : List ℕ) → R (value_at d ns vs name) (value_at e ms ws name)) → R v w → (name : List ℕ) → R (value_at d (ns ++ k ∷ []) (vs ++ v ∷ []) name) (value_at e (ms ++ k ∷ []) (ws ++ w ∷ []) name)
  beside_pushed ns ms vs ws k v w left right same all here name =
      subst (λ x. R x (value_at e (ms ++ k ∷ []) (ws ++ w ∷ []) name)) (sym (value_at-push d name ns vs k v left))
      (subst (λ y. R (cond (has_name ns name) (value_at d ns vs name) (cond (bytes_eq name k) v d)) y) (sym (value_at-push e name ms ws k w right))
      (subst (λ b. R (cond (has_name ns name) (value_at d ns vs name) (cond (bytes_eq name k) v d)) (cond b (value_at e ms ws name) (cond (bytes_eq name k) w e))) (same name)
      (step (has_name ns name) (bytes_eq name k)))) where
        step : (a b : Bool) → R (cond a (value_at d ns vs name) (cond b v d)) (cond a (value_at e ms ws name) (cond b w e))
        step true b = all name
        step false true = here
        step false false = none

  pub beside_there : (ns ms : List (List ℕ)) (vs : List V) (ws : List W) (k : List ℕ) (w : W) → length ms ≡ length ws → SameNames ns ms → has_name ns k ≡ true
      → ((name : List ℕ) → R (value_at d ns vs name) (value_at e ms ws name)) → (name : List ℕ) → R (value_at d ns vs name) (value_at e (ms ++ k ∷ []) (ws ++ w ∷ []) name)
  beside_there ns ms vs ws k w right same there all name =
      subst (λ y. R (value_at d ns vs name) y) (sym (value_at-there e name ms ws k w right (sym (same k) ∙ there))) (all name)

-- The same where the second table is a list of things, each with its name and its value.
module _ {X V W : Type 0} (key : X → List ℕ) (value : X → W) (d : V) (e : W) (R : V → W → Type 0) (none : R d e) where
  one_each : (xs : List X) → length (map key xs) ≡ length (map value xs)
  one_each xs = length-map xs key ∙ sym (length-map xs value)

  grown : (xs : List X) (x : X) (n : List ℕ) → value_at e (map key xs ++ key x ∷ []) (map value xs ++ value x ∷ []) n ≡ value_at e (map key (xs ++ x ∷ [])) (map value (xs ++ x ∷ [])) n
  grown xs x n = λ i. value_at e (sym (map-append key xs (x ∷ [])) i) (sym (map-append value xs (x ∷ [])) i) n

  pub named_pushed : (xs : List X) (x : X) (ns : List (List ℕ)) (vs : List V) (v : V) → length ns ≡ length vs → SameNames ns (map key xs)
      → ((n : List ℕ) → R (value_at d ns vs n) (value_at e (map key xs) (map value xs) n)) → R v (value x) → (n : List ℕ) → R (value_at d (ns ++ key x ∷ []) (vs ++ v ∷ []) n) (value_at e (map key (xs ++ x ∷ [])) (map value (xs ++ x ∷ [])) n)
  named_pushed xs x ns vs v paired same all here n =
      subst (λ w. R (value_at d (ns ++ key x ∷ []) (vs ++ v ∷ []) n) w) (grown xs x n)
      (beside_pushed d e R none ns (map key xs) vs (map value xs) (key x) v (value x) paired (one_each xs) same all here n)

  pub named_there : (xs : List X) (x : X) (ns : List (List ℕ)) (vs : List V) → SameNames ns (map key xs) → has_name ns (key x) ≡ true
      → ((n : List ℕ) → R (value_at d ns vs n) (value_at e (map key xs) (map value xs) n)) → (n : List ℕ) → R (value_at d ns vs n) (value_at e (map key (xs ++ x ∷ [])) (map value (xs ++ x ∷ [])) n)
  named_there xs x ns vs same there all n =
      subst (λ w. R (value_at d ns vs n) w) (grown xs x n)
      (beside_there d e R none ns (map key xs) vs (map value xs) (key x) (value x) (one_each xs) same there all n)

pub names_grown : {X : Type 0} (key : X → List ℕ) (xs : List X) (x : X) (ns : List (List ℕ)) → SameNames ns (map key xs) → SameNames (with_name ns (key x)) (map key (xs ++ x ∷ []))
names_grown key xs x ns same n = same_noted ns (map key xs) (key x) same n ∙ ap (λ ms. has_name ms n) (sym (map-append key xs (x ∷ [])))
