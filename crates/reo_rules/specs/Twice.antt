-- Names that stand twice: types, connectors, symbols of one type, parameters and nodes of one connector.
use Rattle.std.specs.Prelude.{ℕ, List, [], ◌++◌}
use Rattle.std.specs.List.{flat_map}
use Rattle.reo_trees.specs.declared.types.Shape as shape
use Rattle.reo_trees.specs.declared.types.Shape.{Shape}
use Rattle.reo_trees.specs.declared.types.TypeTerm.{TypeTerm}
use Rattle.reo_trees.specs.declared.items.Item.{Item}
use Rattle.reo_trees.specs.declared.items.ItemForm.{ItemForm}
use Rattle.reo_trees.specs.declared.items.ItemForm.TheVariants as forms
use Rattle.reo_trees.specs.declared.programs.Parameter.{Parameter}
use Rattle.reo_trees.specs.declared.programs.Connector.{Connector}
use Rattle.reo_trees.specs.declared.programs.Declaration.{Declaration}
use Rattle.reo_trees.specs.declared.programs.Declaration.TheVariants as declarations
use Rattle.reo_rules.specs.declared.fault.FlatFault.{FlatFault}
use Rattle.reo_rules.specs.declared.fault.FlatFault.TheVariants as faults
use Rattle.reo_rules.specs.Lists.{each_after, where_true, has_name}
use Rattle.reo_rules.specs.Types.{parts_of}
use Rattle.reo_rules.specs.Scopes.{type_names, connector_names, parameter_names, node_names}

-- The break where a name stands among these before.
abbrev pub twice_among : List (List ℕ) → ℕ → List ℕ → List FlatFault
twice_among before line name = where_true (has_name before name) (faults.Twice line name)

-- In the symbols of one type.
abbrev pub twice_in_part : ℕ → Shape → List FlatFault
twice_in_part line (shape.Sym names) = each_after (λ before name. twice_among before line name) [] names
twice_in_part line s = []

abbrev pub twice_in_type : TypeTerm → List FlatFault
twice_in_type t = flat_map (λ (part : TypeTerm). twice_in_part part.line part.shape) (parts_of t.line t.shape)

-- In a parameter behind others, and in an item behind others and these parameters.
abbrev pub twice_in_parameter : List Parameter → Parameter → List FlatFault
twice_in_parameter before p = twice_among (parameter_names before) p.line p.name ++ twice_in_type p.term

abbrev pub twice_in_item : List Parameter → List Item → ℕ → ItemForm → List FlatFault
twice_in_item ps before line (forms.Node name term) = twice_among (parameter_names ps ++ node_names before) line name ++ twice_in_type term
twice_in_item ps before line f = []

abbrev pub twice_in_connector : Connector → List FlatFault
twice_in_connector c = each_after twice_in_parameter [] c.parameters ++ each_after (λ before (i : Item). twice_in_item c.parameters before i.line i.form) [] c.items

abbrev pub twice_in : List Declaration → Declaration → List FlatFault
twice_in before (declarations.Named line name term) = twice_among (type_names before) line name ++ twice_in_type term
twice_in before (declarations.Made c) = twice_among (connector_names before) c.line c.name ++ twice_in_connector c

-- All breaks of the rule, in text order.
abbrev pub twice : List Declaration → List FlatFault
twice ds = each_after twice_in [] ds
