-- Flat names by the number of a name.
use Rattle.std.proofs.Common.{arith, ◌≡◌, ◌∙◌, ℕ, suc, ◌+◌, ◌<◌, ◌≤◌, List, [], ◌∷◌, ◌++◌, length, get_or, Bool, true, false, not, cond, None, position, refl, ap, bytes_eq}
use Rattle.std.proofs.lemmas.List.{length-append, length-map}
use Rattle.reo_trees.specs.declared.programs.Parameter.{Parameter}
use Rattle.reo_rules.specs.Scopes.{parameter_names}
use Rattle.reo_flat.specs.Unfolding.{flat_name}
use Rattle.reo_unfold.proofs.Positions.{before_first, place_none}

module _ (path : List ℕ) (rest : List (List ℕ)) (name : List ℕ) where
  abbrev place : List Parameter → ℕ
  place ps = before_first (bytes_eq name) (parameter_names ps ++ rest)

  -- The argument of a parameter.
  pub flat_at_parameter : (ps : List Parameter) (arguments : List (List ℕ)) (d : List ℕ) → place ps < length ps → place ps < length arguments → flat_name path ps arguments name ≡ get_or arguments (place ps) d
  flat_at_parameter [] arguments d h k = absurd (omega arith)
  flat_at_parameter (p ∷ ps) [] d h k = absurd (omega arith)
  flat_at_parameter (p ∷ ps) (a ∷ arguments) d h k = by (bytes_eq name p.name) (flat_name path ps arguments name) (place ps) (flat_at_parameter ps arguments d) h k where
    by : (b : Bool) (other : List ℕ) (r : ℕ) → (r < length ps → r < length arguments → other ≡ get_or arguments r d) → cond (not b) (1 + r) 0 < suc (length ps) → cond (not b) (1 + r) 0 < suc (length arguments) → cond b a other ≡ get_or (a ∷ arguments) (cond (not b) (1 + r) 0) d
    by true other r more h k = refl
    by false other r more h k =
        let next : suc r ≡ 1 + r = omega arith in
        more (omega arith) (omega arith) ∙ ap (λ k. get_or (a ∷ arguments) k d) next

  -- The path and the name of a name that is behind the parameters or their arguments.
  pub flat_at_node : (ps : List Parameter) (arguments : List (List ℕ)) → (place ps < length ps → length arguments ≤ place ps) → flat_name path ps arguments name ≡ path ++ name
  flat_at_node [] arguments h = refl
  flat_at_node (p ∷ ps) [] h = refl
  flat_at_node (p ∷ ps) (a ∷ arguments) h = by (bytes_eq name p.name) (flat_name path ps arguments name) (place ps) (flat_at_node ps arguments) h where
    by : (b : Bool) (other : List ℕ) (r : ℕ) → ((r < length ps → length arguments ≤ r) → other ≡ path ++ name) → (cond (not b) (1 + r) 0 < suc (length ps) → suc (length arguments) ≤ cond (not b) (1 + r) 0) → cond b a other ≡ path ++ name
    by true other r more h =
        let none = h (omega arith) in
        absurd (omega arith)
    by false other r more h = more (λ k. let far = h (omega arith) in omega arith)

  -- The same of a name that is nowhere.
  pub flat_nowhere : (ps : List Parameter) (arguments : List (List ℕ)) → position (bytes_eq name) (parameter_names ps ++ rest) ≡ None → flat_name path ps arguments name ≡ path ++ name
  flat_nowhere ps arguments none =
      let far = place_none (bytes_eq name) (parameter_names ps ++ rest) none in
      let long = length-append (parameter_names ps) rest in
      let many = length-map ps (λ (p : Parameter). p.name) in
      flat_at_node ps arguments (λ within. absurd (omega arith))
