-- Connectors in a table by name.
use Rattle.std.specs.Prelude.{◌≡◌, ℕ, List, [], length, map}
use Rattle.reo_trees.specs.declared.programs.Parameter.{Parameter}
use Rattle.reo_trees.specs.declared.programs.Connector.{Connector}
use Rattle.reo_rules.specs.Scopes.{parameters_named}
use Rattle.reo_rules_names.specs.declared.connectors.Connectors.{Connectors}
use Rattle.reo_rules_names.specs.SameNames.{SameNames}
use Rattle.reo_rules_names.specs.Values.{value_at}

-- The table has the names of these connectors, and beside each the ways of the parameters of the first that is called so.
pub record AreConnectors (known : List Connector) (table : Connectors) : Type 0 where
  pub names : SameNames table.names (map (λ (c : Connector). c.name) known)
  pub paired : length table.names ≡ length table.ways
  pub ways : (name : List ℕ) → value_at [] table.names table.ways name ≡ map (λ (p : Parameter). p.inward) (parameters_named known name)
