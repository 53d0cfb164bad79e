-- The copies of a connector, without a number and with one.
use Rattle.std.proofs.Common.{◌≡◌, ◌∙◌, ◌∷◌, [], ℕ, Some, None, List, map, ap, sym}
use Rattle.std.specs.List.{flat_map}
use Rattle.std.proofs.lemmas.List.{append-nil}
use Rattle.std.proofs.lemmas.List.Folds.{flat_map-map}
use Rattle.reo_values.proofs.Sequences.{map_map}
use Rattle.reo_trees.specs.declared.programs.Declaration.{Declaration}
use Rattle.reo_trees.specs.declared.programs.Declaration.TheVariants as declarations
use Rattle.reo_trees.specs.declared.programs_two.ConnectorTwo.{ConnectorTwo}
use Rattle.reo_expand.specs.declared.base.bound.Instance.{Instance}
use Rattle.reo_expand.specs.base.Expansion.{connector_for}
use Rattle.reo_expand.specs.base.Steps.{Step, steps_in}
use Rattle.reo_expand.specs.uses.Numbers.{numbers_below}
use Rattle.reo_expand.specs.programs.Noted.{bound_number, instance_for, instances_noted, made_noted, steps_made}

module _ (before : List ConnectorTwo) (names : List (List ℕ)) (c : ConnectorTwo) where
  abbrev steps_for : Instance → List Step
  steps_for i = steps_in before i.bound c.items

  abbrev made_for : Instance → Declaration
  made_for i = declarations.Made (connector_for c i)

  -- One copy.
  pub plain_steps : c.number ≡ None → steps_made before names c ≡ steps_in before [] c.items
  plain_steps is = ap (λ o. flat_map steps_for (instances_noted names c.name o)) is ∙ append-nil (steps_in before [] c.items)

  pub plain_made : c.number ≡ None → made_noted names c ≡ declarations.Made (connector_for c (record { name = c.name; bound = [] })) ∷ []
  plain_made is = ap (λ o. map made_for (instances_noted names c.name o)) is

  -- One for each number.
  pub numbered_steps : (number : List ℕ) → c.number ≡ Some number
      → steps_made before names c ≡ flat_map (λ k. steps_in before (bound_number number k) c.items) (numbers_below 4097 names c.name)
  numbered_steps number is =
      ap (λ o. flat_map steps_for (instances_noted names c.name o)) is
      ∙ flat_map-map steps_for (instance_for c.name number) (numbers_below 4097 names c.name)

  pub numbered_made : (number : List ℕ) → c.number ≡ Some number
      → made_noted names c ≡ map (λ k. declarations.Made (connector_for c (instance_for c.name number k))) (numbers_below 4097 names c.name)
  numbered_made number is =
      ap (λ o. map made_for (instances_noted names c.name o)) is
      ∙ map_map made_for (instance_for c.name number) (numbers_below 4097 names c.name)

  -- By the numbers that were asked for.
  module _ (number name values ks : List ℕ) (is : c.number ≡ Some number) (same : name ≡ c.name) (asked : values ≡ numbers_below 4097 names name) (slice : ks ≡ values) where
    asked_for : ks ≡ numbers_below 4097 names c.name
    asked_for = slice ∙ asked ∙ ap (numbers_below 4097 names) same

    pub family_steps : flat_map (λ k. steps_in before (bound_number number k) c.items) ks ≡ steps_made before names c
    family_steps = ap (flat_map (λ k. steps_in before (bound_number number k) c.items)) asked_for ∙ sym (numbered_steps number is)

    pub family_made : map (λ k. declarations.Made (connector_for c (instance_for c.name number k))) ks ≡ made_noted names c
    family_made = ap (map (λ k. declarations.Made (connector_for c (instance_for c.name number k)))) asked_for ∙ sym (numbered_made number is)
