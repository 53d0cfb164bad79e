-- Uses with another number of arguments than parameters.
use Rattle.std.specs.Prelude.{ℕ, ◌==◌, not, List, [], length}
use Rattle.std.specs.List.{flat_map}
use Rattle.reo_trees.specs.declared.items.Item.{Item}
use Rattle.reo_trees.specs.declared.items.ItemForm.{ItemForm}
use Rattle.reo_trees.specs.declared.items.ItemForm.TheVariants as forms
use Rattle.reo_trees.specs.declared.programs.Connector.{Connector}
use Rattle.reo_trees.specs.declared.programs.Declaration.{Declaration}
use Rattle.reo_trees.specs.declared.programs.Declaration.TheVariants as declarations
use Rattle.reo_rules.specs.declared.fault.FlatFault.{FlatFault}
use Rattle.reo_rules.specs.declared.fault.FlatFault.TheVariants as faults
use Rattle.reo_rules.specs.Lists.{each_after, where_true}
use Rattle.reo_rules.specs.Scopes.{connectors_of, parameters_named}

-- The break where an item is such a use.
abbrev pub arity_in_item : List Connector → ℕ → ItemForm → List FlatFault
arity_in_item known line (forms.Used name arguments) = where_true (not (length arguments == length (parameters_named known name))) (faults.Arity line)
arity_in_item known line f = []

abbrev pub arity_in : List Declaration → Declaration → List FlatFault
arity_in before (declarations.Named line name term) = []
arity_in before (declarations.Made c) = flat_map (λ (i : Item). arity_in_item (connectors_of before) i.line i.form) c.items

-- All breaks of the rule, in text order.
abbrev pub arity : List Declaration → List FlatFault
arity ds = each_after arity_in [] ds
