-- Searches in a list that is seen through a function.
use Rattle.std.proofs.Common.{◌≡◌, ◌∙◌, ℕ, ◌+◌, List, [], ◌∷◌, ◌++◌, Bool, true, false, ap, sym, refl, map, cond, Some, None}
use Rattle.std.specs.Prelude.{position, ◌||◌, not, nat_lt, slice_get}
use Rattle.std.specs.List.{list_any, prefix_len}
use Rattle.std.specs.Option.{option_map}
use Rattle.std.specs.Str.{bytes_eq}
use Rattle.std.proofs.lemmas.List.{length-map, map-append}
use Rattle.std.proofs.lemmas.Option.{slice_get-map}
use Rattle.std.proofs.lemmas.Slice.Eq.{bytes_eq-Decides}
use Rattle.reo_rules.specs.Names.{with_name}

module _ {X Y : Type 0} (f : X → Y) (p : Y → Bool) where
  pub list_any-map : (xs : List X) → list_any p (map f xs) ≡ list_any (λ x. p (f x)) xs
  list_any-map [] = refl
  list_any-map (x ∷ xs) = ap (λ rest. p (f x) || rest) (list_any-map xs)

  pub prefix_len-map : (xs : List X) → prefix_len p (map f xs) ≡ prefix_len (λ x. p (f x)) xs
  prefix_len-map [] = refl
  prefix_len-map (x ∷ xs) = ap (λ rest. cond (p (f x)) (1 + rest) 0) (prefix_len-map xs)

pub position-map : {X Y : Type 0} (f : X → Y) (p : Y → Bool) (xs : List X) → position p (map f xs) ≡ position (λ x. p (f x)) xs
position-map f p xs =
    let first = prefix_len-map f (λ y. not (p y)) xs in
    λ i. cond (nat_lt (first i) (length-map xs f i)) (Some (first i)) None

module _ {X : Type 0} (f : X → List ℕ) where
  chosen : (b : Bool) (ks : List X) (v : X) → map f (cond b ks (ks ++ v ∷ [])) ≡ cond b (map f ks) (map f ks ++ f v ∷ [])
  chosen true ks v = refl
  chosen false ks v = map-append f ks (v ∷ [])

  -- the names after one more was seen
  pub with_name-map : (ks : List X) (v : X) → map f (cond (list_any (λ k. bytes_eq (f v) (f k)) ks) ks (ks ++ v ∷ [])) ≡ with_name (map f ks) (f v)
  with_name-map ks v = chosen _ ks v ∙ ap (λ b. cond b (map f ks) (map f ks ++ f v ∷ [])) (sym (list_any-map f (bytes_eq (f v)) ks))

  -- what stands at the number
  pub stored_name : (ks : List X) (n : ℕ) (k v : X) → slice_get ks n ≡ Some k → bytes_eq (f v) (f k) ≡ true → slice_get (map f ks) n ≡ Some (f v)
  stored_name ks n k v at same = slice_get-map f ks n ∙ ap (option_map f) at ∙ ap Some (sym ((bytes_eq-Decides (f v) (f k)).0 same))
