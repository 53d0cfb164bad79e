-- The names so far.
use Rattle.std.proofs.Common.{◌≡◌, ◌++◌, take}
use Rattle.reo_rules.specs.Scopes.{parameter_names, node_names}
use Rattle.reo_unfold.specs.Local.{node_places}
use Rattle.reo_unfold.proofs.local.local_of.Given as goal

abbrev pub invariant-loop-place : goal.invariant-loop-place
invariant-loop-place l = record {
  names : l.local.names ≡ parameter_names l.connector.parameters ++ node_names (take l.place l.connector.items);
  nodes : l.local.nodes ≡ node_places (take l.place l.connector.items);
  items : l.item-items ≡ l.connector.items;
}
