-- No connector of a name fits a use, as it is told by a table and by the steps.
use Rattle.std.proofs.Common.{◌≡◌, ◌∙◌, ℕ, Bool, true, false, not, Option, Some, None, is_some, is_none, List, [], ◌∷◌, refl, ap, sym}
use Rattle.std.proofs.Math.Bool.{and-false}
use Rattle.std.specs.Prelude.{◌||◌, ◌&&◌}
use Rattle.std.specs.List.{list_any, list_all}
use Rattle.reo_trees.specs.declared.indexes.Index.{Index}
use Rattle.reo_trees.specs.declared.programs_two.ConnectorTwo.{ConnectorTwo}
use Rattle.reo_expand.specs.base.Steps.{none_fits}
use Rattle.reo_expand.specs.tables.Firsts.{has_number, is_unfit}

one_more : (a b r s : Bool) → b ≡ not a → r ≡ not s → (a && r) ≡ not (b || s)
one_more true b r s e h = h ∙ ap (λ b. not (b || s)) (sym e)
one_more false b r s e h = ap (λ b. not (b || s)) (sym e)

joined : (a b r s t : Bool) → b ≡ not a → t ≡ not s → ((a || r) && not (b || s)) ≡ (a && t)
joined true b r s t e h = ap (λ b. not (b || s)) e ∙ sym h
joined false b r s t e h = ap (λ b. r && not (b || s)) e ∙ and-false r

module _ {X : Type 0} (p q : X → Bool) (opposite : (x : X) → q x ≡ not (p x)) where
  all-not : (xs : List X) → list_all p xs ≡ not (list_any q xs)
  all-not [] = refl
  all-not (x ∷ xs) = one_more (p x) (q x) (list_all p xs) (list_any q xs) (opposite x) (all-not xs)

  some-all : (x : X) (xs : List X) → (list_any p (x ∷ xs) && not (list_any q (x ∷ xs))) ≡ list_all p (x ∷ xs)
  some-all x xs = joined (p x) (q x) (list_any p xs) (list_any q xs) (list_all p xs) (opposite x) (all-not xs)

some-not : (o : Option (List ℕ)) → is_some o ≡ not (is_none o)
some-not None = refl
some-not (Some n) = refl

none-not : (o : Option (List ℕ)) → is_none o ≡ not (is_some o)
none-not None = refl
none-not (Some n) = refl

pub unfit_is : (o : Option Index) (cs : List ConnectorTwo) → is_unfit (is_some o) cs ≡ none_fits o cs
unfit_is o [] = refl
unfit_is None (c ∷ cs) = some-all (has_number true) (has_number false) (λ x. none-not x.number) c cs
unfit_is (Some i) (c ∷ cs) = some-all (has_number false) (has_number true) (λ x. some-not x.number) c cs
