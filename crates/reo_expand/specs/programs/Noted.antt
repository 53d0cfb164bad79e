-- What a declaration stands for, and its steps, by the names of the connectors that are used behind it.
use Rattle.std.specs.Prelude.{ℕ, pos, Option, Some, None, List, [], ◌∷◌, map, flat_map}
use Rattle.reo_trees.specs.declared.programs.Declaration.{Declaration}
use Rattle.reo_trees.specs.declared.programs.Declaration.TheVariants as declarations
use Rattle.reo_trees.specs.declared.programs_two.ConnectorTwo.{ConnectorTwo}
use Rattle.reo_trees.specs.declared.programs_two.DeclarationTwo.{DeclarationTwo}
use Rattle.reo_trees.specs.declared.programs_two.DeclarationTwo.TheVariants as two
use Rattle.reo_expand.specs.declared.base.bound.Bound.{Bound}
use Rattle.reo_expand.specs.declared.base.bound.Instance.{Instance}
use Rattle.reo_expand.specs.base.Expansion.{numbered_name, connector_for}
use Rattle.reo_expand.specs.base.Steps.{Step, steps_in}
use Rattle.reo_expand.specs.uses.Numbers.{numbers_below}

-- A number of a connector has a value, and gives a name.
abbrev pub bound_number : List ℕ → ℕ → List Bound
bound_number number k = record { name = number; value = pos k } ∷ []

abbrev pub instance_for : List ℕ → List ℕ → ℕ → Instance
instance_for name number k = record { name = numbered_name name (pos k); bound = bound_number number k }

-- The copies of a connector: one, or one for each number with which it is used.
abbrev pub instances_noted : List (List ℕ) → List ℕ → Option (List ℕ) → List Instance
instances_noted names name None = record { name = name; bound = [] } ∷ []
instances_noted names name (Some number) = map (instance_for name number) (numbers_below 4097 names name)

abbrev pub made_noted : List (List ℕ) → ConnectorTwo → List Declaration
made_noted names c = map (λ i. declarations.Made (connector_for c i)) (instances_noted names c.name c.number)

abbrev pub steps_made : List ConnectorTwo → List (List ℕ) → ConnectorTwo → List Step
steps_made before names c = flat_map (λ (i : Instance). steps_in before i.bound c.items) (instances_noted names c.name c.number)

abbrev pub declared_noted : List (List ℕ) → DeclarationTwo → List Declaration
declared_noted names (two.Named line name term) = declarations.Named line name term ∷ []
declared_noted names (two.Made c) = made_noted names c

abbrev pub steps_noted : List ConnectorTwo → List (List ℕ) → DeclarationTwo → List Step
steps_noted before names (two.Named line name term) = []
steps_noted before names (two.Made c) = steps_made before names c
