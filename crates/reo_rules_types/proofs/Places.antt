-- Where something stands in a list.
use Rattle.std.proofs.Common.{◌≡◌, ◌∙◌, ℕ, ◌+◌, suc, Bool, true, false, not, cond, Some, None, List, [], ◌∷◌, length, position, nat_lt, refl, sym, ap}
use Rattle.std.specs.Prelude.{is_some, ◌||◌}
use Rattle.std.specs.List.{list_any, position_or_len, position_from}
use Rattle.std.proofs.lemmas.Iterator.Adapters.{position_from-zero}
use Rattle.reo_values.proofs.Naturals.{one_on, positive}

some_if : (b : Bool) (n : ℕ) → is_some (cond b (Some n) None) ≡ b
some_if true n = refl
some_if false n = refl

or_true : (r : Bool) → (true || r) ≡ true
or_true true = refl
or_true false = refl

module _ {X : Type 0} (p : X → Bool) where
  step : (b r : Bool) (n m : ℕ) → nat_lt n m ≡ r → nat_lt (cond (not b) (1 + n) 0) (suc m) ≡ (b || r)
  step true r n m is = positive m ∙ sym (or_true r)
  step false r n m is = one_on n m ∙ is

  pub below : (xs : List X) → nat_lt (position_or_len p xs) (length xs) ≡ list_any p xs
  below [] = refl
  below (x ∷ xs) = step (p x) (list_any p xs) (position_or_len p xs) (length xs) (below xs)

  -- It stands somewhere exactly where the test holds of one.
  pub position_some : (xs : List X) → is_some (position p xs) ≡ list_any p xs
  position_some xs = some_if _ (position_or_len p xs) ∙ below xs

  -- The same of the search from the front.
  pub from_some : (xs : List X) → is_some (position_from p 0 xs) ≡ list_any p xs
  from_some xs = ap is_some (sym (position_from-zero p xs)) ∙ position_some xs
