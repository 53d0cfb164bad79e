-- Ends at parameters that go the other way.
use Rattle.std.specs.Prelude.{ℕ, Bool, not, ◌&&◌, List, [], bytes_eq}
use Rattle.std.specs.List.{list_any, flat_map}
use Rattle.reo_trees.specs.declared.items.Item.{Item}
use Rattle.reo_trees.specs.declared.items.ItemForm.{ItemForm}
use Rattle.reo_trees.specs.declared.programs.Parameter.{Parameter}
use Rattle.reo_trees.specs.declared.programs.Connector.{Connector}
use Rattle.reo_trees.specs.declared.programs.Declaration.{Declaration}
use Rattle.reo_trees.specs.declared.programs.Declaration.TheVariants as declarations
use Rattle.reo_rules.specs.declared.fault.FlatFault.{FlatFault}
use Rattle.reo_rules.specs.declared.fault.FlatFault.TheVariants as faults
use Rattle.reo_rules.specs.Lists.{each_after, where_true}
use Rattle.reo_rules.specs.Scopes.{connectors_of}
use Rattle.reo_rules.specs.Touches.{Touch, touches_in, bool_eq}

-- Sink ends at `in` parameters and source ends at `out` parameters.
abbrev pub goes_against : Touch → Parameter → Bool
goes_against t p = bytes_eq t.name p.name && not (bool_eq p.inward t.is_source)

-- The breaks in an item, end by end.
abbrev pub direction_in_item : List Connector → List Parameter → ℕ → ItemForm → List FlatFault
direction_in_item known ps line f = flat_map (λ (t : Touch). where_true (list_any (goes_against t) ps) (faults.Direction line t.name)) (touches_in known f)

abbrev pub direction_in : List Declaration → Declaration → List FlatFault
direction_in before (declarations.Named line name term) = []
direction_in before (declarations.Made c) = flat_map (λ (i : Item). direction_in_item (connectors_of before) c.parameters i.line i.form) c.items

-- All breaks of the rule, in text order.
abbrev pub direction : List Declaration → List FlatFault
direction ds = each_after direction_in [] ds
