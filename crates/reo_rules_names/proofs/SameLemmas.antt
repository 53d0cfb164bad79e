-- Names in lists that grow side by side.
use Rattle.std.proofs.Common.{◌≡◌, ◌∙◌, ℕ, List, [], ◌∷◌, ◌++◌, Bool, true, false, cond, ◌||◌, refl, sym, ap, bytes_eq}
use Rattle.std.proofs.Math.Bool.{or-false}
use Rattle.std.proofs.lemmas.List.Folds.{list_any-append}
use Rattle.std.proofs.lemmas.Slice.Eq.{bytes_eq-Decides}
use Rattle.reo_rules.specs.Lists.{has_name}
use Rattle.reo_rules.specs.Names.{with_name}
use Rattle.reo_rules_names.specs.SameNames.{SameNames}

-- A name that is the same as one that is there is there.
pub has_same : (xs : List (List ℕ)) (k n : List ℕ) → bytes_eq n k ≡ true → has_name xs k ≡ true → has_name xs n ≡ true
has_same xs k n same there = ap (has_name xs) ((bytes_eq-Decides n k).0 same) ∙ there

-- Noting a name has the same names as putting it at the end, also where it is there already.
pub has_name-with : (xs : List (List ℕ)) (k n : List ℕ) → has_name (with_name xs k) n ≡ has_name (xs ++ k ∷ []) n
has_name-with xs k n = step (has_name xs k) refl where
  there : (e : Bool) → bytes_eq n k ≡ e → has_name xs k ≡ true → has_name xs n ≡ (has_name xs n || (e || false))
  there false other is = sym (or-false (has_name xs n))
  there true same is =
      let both = has_same xs k n same is in
      both ∙ sym (ap (λ b. b || (true || false)) both)

  step : (b : Bool) → has_name xs k ≡ b → has_name (cond b xs (xs ++ k ∷ [])) n ≡ has_name (xs ++ k ∷ []) n
  step false is = refl
  step true is = there (bytes_eq n k) refl is ∙ sym (list_any-append (bytes_eq n) xs (k ∷ []))

-- Two lists with the same names have the same names after one more.
pub same_noted : (xs ys : List (List ℕ)) (k : List ℕ) → SameNames xs ys → SameNames (with_name xs k) (ys ++ k ∷ [])
same_noted xs ys k same n =
    has_name-with xs k n ∙ list_any-append (bytes_eq n) xs (k ∷ []) ∙ ap (λ b. b || has_name (k ∷ []) n) (same n)
    ∙ sym (list_any-append (bytes_eq n) ys (k ∷ []))
