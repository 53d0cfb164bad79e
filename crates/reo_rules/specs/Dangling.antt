-- Nodes and parameters that lack an end in their connector.
use Rattle.std.specs.Prelude.{ℕ, true, false, not, ◌&&◌, List, [], ◌++◌}
use Rattle.std.specs.List.{flat_map}
use Rattle.reo_trees.specs.declared.items.Item.{Item}
use Rattle.reo_trees.specs.declared.items.ItemForm.{ItemForm}
use Rattle.reo_trees.specs.declared.items.ItemForm.TheVariants as forms
use Rattle.reo_trees.specs.declared.programs.Parameter.{Parameter}
use Rattle.reo_trees.specs.declared.programs.Declaration.{Declaration}
use Rattle.reo_trees.specs.declared.programs.Declaration.TheVariants as declarations
use Rattle.reo_rules.specs.declared.fault.FlatFault.{FlatFault}
use Rattle.reo_rules.specs.declared.fault.FlatFault.TheVariants as faults
use Rattle.reo_rules.specs.Lists.{each_after, where_true}
use Rattle.reo_rules.specs.Scopes.{connectors_of}
use Rattle.reo_rules.specs.Touches.{Touch, touches_of, is_touched}

-- The break where an `in` parameter has no outgoing end, or an `out` parameter no incoming one.
abbrev pub dangling_parameter : List Touch → Parameter → List FlatFault
dangling_parameter ts p = where_true (not (is_touched ts p.name p.inward)) (faults.Dangling p.line p.name)

-- The break where a node lacks an incoming or an outgoing end.
abbrev pub dangling_in_item : List Touch → ℕ → ItemForm → List FlatFault
dangling_in_item ts line (forms.Node name term) = where_true (not (is_touched ts name true && is_touched ts name false)) (faults.Dangling line name)
dangling_in_item ts line f = []

abbrev pub dangling_in : List Declaration → Declaration → List FlatFault
dangling_in before (declarations.Named line name term) = []
dangling_in before (declarations.Made c) =
    flat_map (dangling_parameter (touches_of (connectors_of before) c)) c.parameters
    ++ flat_map (λ (i : Item). dangling_in_item (touches_of (connectors_of before) c) i.line i.form) c.items

-- All breaks of the rule, in text order.
abbrev pub dangling : List Declaration → List FlatFault
dangling ds = each_after dangling_in [] ds
