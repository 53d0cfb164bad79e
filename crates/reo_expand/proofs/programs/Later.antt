-- What a declaration stands for, where the names that are noted are those that connectors behind it use.
use Rattle.std.proofs.Common.{◌≡◌, ℕ, pos, Option, Some, None, List, map, refl, ap}
use Rattle.std.specs.Prelude.{filter}
use Rattle.std.specs.List.{flat_map, range_with_len}
use Rattle.reo_rules.specs.Lists.{has_name}
use Rattle.reo_trees.specs.declared.programs.Connector.{Connector}
use Rattle.reo_trees.specs.declared.programs.Declaration.TheVariants as declarations
use Rattle.reo_trees.specs.declared.programs_two.ConnectorTwo.{ConnectorTwo}
use Rattle.reo_trees.specs.declared.programs_two.DeclarationTwo.{DeclarationTwo}
use Rattle.reo_trees.specs.declared.programs_two.DeclarationTwo.TheVariants as two
use Rattle.reo_expand.specs.declared.base.bound.Instance.{Instance}
use Rattle.reo_expand.specs.base.Expansion.{numbered_name, has_use, instances_by, connector_for, declared_by, expanded, connectors_of}
use Rattle.reo_expand.specs.base.Steps.{steps_in, declaration_steps}
use Rattle.reo_expand.specs.uses.Numbers.{numbers_below}
use Rattle.reo_expand.specs.programs.Noted.{instance_for, instances_noted, declared_noted, steps_noted}

module _ (names : List (List ℕ)) (later : List Connector) (known : (n : List ℕ) → has_name names n ≡ has_use later n) where
  numbers_known : (name : List ℕ) → numbers_below 4097 names name ≡ filter (λ k. has_use later (numbered_name name (pos k))) (range_with_len 0 4097)
  unfolding numbers_below
  numbers_known name = λ i. filter (λ k. known (numbered_name name (pos k)) i) (range_with_len 0 4097)

  instances_known : (name : List ℕ) (o : Option (List ℕ)) → instances_noted names name o ≡ instances_by later name o
  instances_known name None = refl
  instances_known name (Some number) = ap (map (instance_for name number)) (numbers_known name)

  pub declared_known : (d : DeclarationTwo) → declared_noted names d ≡ declared_by later d
  declared_known (two.Named line name term) = refl
  declared_known (two.Made c) = ap (map (λ (i : Instance). declarations.Made (connector_for c i))) (instances_known c.name c.number)

-- And its steps.
pub steps_known : (names : List (List ℕ)) (behind : List DeclarationTwo) → ((n : List ℕ) → has_name names n ≡ has_use (connectors_of (expanded behind)) n)
    → (before : List ConnectorTwo) (d : DeclarationTwo) → steps_noted before names d ≡ declaration_steps before behind d
steps_known names behind known before (two.Named line name term) = refl
steps_known names behind known before (two.Made c) =
    ap (flat_map (λ (i : Instance). steps_in before i.bound c.items)) (instances_known names (connectors_of (expanded behind)) known c.name c.number)
