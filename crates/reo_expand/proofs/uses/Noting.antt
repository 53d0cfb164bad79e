-- A name more among names.
use Rattle.std.proofs.Common.{◌≡◌, ◌∙◌, ℕ, Bool, true, false, cond, List, [], ◌∷◌, ◌++◌, refl, ap, sym}
use Rattle.std.proofs.Math.Bool.{or-false, or-true}
use Rattle.std.specs.Prelude.{bytes_eq, ◌||◌}
use Rattle.std.proofs.lemmas.List.Folds.{list_any-append}
use Rattle.std.proofs.lemmas.Slice.Eq.{bytes_eq-Decides}
use Rattle.reo_rules.specs.Lists.{has_name}
use Rattle.reo_rules.specs.Names.{with_name}

module _ (names : List (List ℕ)) (name n : List ℕ) where
  there : (b : Bool) → bytes_eq n name ≡ b → has_name names name ≡ true → has_name names n ≡ (has_name names n || b)
  there false e has = sym (or-false (has_name names n))
  there true e has = ap (has_name names) ((bytes_eq-Decides n name).0 e) ∙ has ∙ sym (or-true (has_name names n))

  by : (b : Bool) → has_name names name ≡ b → has_name (cond b names (names ++ name ∷ [])) n ≡ (has_name names n || bytes_eq n name)
  by true has = there (bytes_eq n name) refl has
  by false has = list_any-append (bytes_eq n) names (name ∷ []) ∙ ap (λ b. has_name names n || b) (or-false (bytes_eq n name))

  pub has-with : has_name (with_name names name) n ≡ (has_name names n || bytes_eq n name)
  has-with = by (has_name names name) refl
