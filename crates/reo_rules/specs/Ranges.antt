-- Types and items that leave their bounds.
use Rattle.std.specs.Prelude.{ℕ, Bool, true, false, not, ◌&&◌, ◌||◌, nat_lt, nat_le, Option, Some, None, is_none, List, [], ◌++◌, length}
use Rattle.std.specs.List.{flat_map}
use Rattle.std.specs.Cmp.Lexicographic.{pointwise}
use Rattle.std.specs.Int.Signed.{le_z}
use Rattle.std.specs.Prelude.{bytes_eq}
use Rattle.reo_values.specs.declared.kindred.Kindred as kindred
use Rattle.reo_values.specs.declared.kindred.Kindred.{Kindred}
use Rattle.reo_exprs.specs.declared.expr.Expr.{Expr}
use Rattle.reo_exprs.specs.Typing.{type_of_expr}
use Rattle.reo_trees.specs.declared.types.Shape as shape
use Rattle.reo_trees.specs.declared.types.Shape.{Shape}
use Rattle.reo_trees.specs.declared.types.TypeTerm.{TypeTerm}
use Rattle.reo_trees.specs.declared.items.Item.{Item}
use Rattle.reo_trees.specs.declared.items.ItemForm.{ItemForm}
use Rattle.reo_trees.specs.declared.items.ItemForm.TheVariants as forms
use Rattle.reo_trees.specs.declared.items.Channel.{Channel}
use Rattle.reo_trees.specs.declared.items.Channel.TheVariants as channels
use Rattle.reo_trees.specs.declared.programs.Parameter.{Parameter}
use Rattle.reo_trees.specs.declared.programs.Connector.{Connector}
use Rattle.reo_trees.specs.declared.programs.Declaration.{Declaration}
use Rattle.reo_trees.specs.declared.programs.Declaration.TheVariants as declarations
use Rattle.reo_rules.specs.declared.fault.FlatFault.{FlatFault}
use Rattle.reo_rules.specs.declared.fault.FlatFault.TheVariants as faults
use Rattle.reo_rules.specs.Lists.{each_after, where_true}
use Rattle.reo_rules.specs.Types.{Typed, types_of, type_named, resolved, parts_of, depth_of}
use Rattle.reo_rules.specs.Terms.{expr_of}
use Rattle.reo_rules.specs.Scopes.{scope_of}

-- A written type has bounds out of order, or too many names.
abbrev pub is_out : Shape → Bool
is_out (shape.Int low high) = not (le_z low high)
is_out (shape.Sym names) = nat_lt 1024 (length names)
is_out s = false

-- That, or pairs nested more than 8 deep once names are resolved.
abbrev pub range_in_type : List Typed → TypeTerm → List FlatFault
range_in_type types t = flat_map (λ (part : TypeTerm). where_true (is_out part.shape || nat_lt 8 (depth_of (resolved types part.shape))) (faults.Range part.line)) (parts_of t.line t.shape)

-- Whether the first type lies inside the second.
abbrev pub is_inside : Kindred → Kindred → Bool
is_inside kindred.Unit kindred.Unit = true
is_inside kindred.Bool kindred.Bool = true
is_inside (kindred.Int low high) (kindred.Int low2 high2) = le_z low2 low && le_z high high2
is_inside (kindred.Sym names) (kindred.Sym names2) = pointwise bytes_eq names names2
is_inside (kindred.Text most) (kindred.Text most2) = nat_le most most2
is_inside (kindred.Pair' m (kindred.more_of-Twins a b _)) (kindred.Pair' n (kindred.more_of-Twins c d _)) = is_inside a c && is_inside b d
is_inside _ _ = false

-- The expression's type breaks no bound; for a map it lies inside the type of its second node.
abbrev pub lies_in : Kindred → Option Kindred → Bool
lies_in b (Some t) = is_inside t b
lies_in b None = false

abbrev pub leaves_by_filter : Kindred → Option Expr → Bool
leaves_by_filter a (Some e) = is_none (type_of_expr e a)
leaves_by_filter a None = false

abbrev pub leaves_by_map : Kindred → Kindred → Option Expr → Bool
leaves_by_map a b (Some e) = not (lies_in b (type_of_expr e a))
leaves_by_map a b None = false

-- A channel between nodes of two types leaves its bounds.
abbrev pub leaves : List Typed → Kindred → Kindred → Channel → Bool
leaves types a b (channels.Fifo size held) = nat_lt size (length held)
leaves types a b (channels.Shift size held) = nat_lt size (length held)
leaves types a b (channels.Filter t) = leaves_by_filter a (expr_of types t.form)
leaves types a b (channels.Map t) = leaves_by_map a b (expr_of types t.form)
leaves types a b c = false

abbrev pub range_in_item : List Typed → List Typed → ℕ → ItemForm → List FlatFault
range_in_item types scope line (forms.Node name term) = range_in_type types term
range_in_item types scope line (forms.Joined channel first second) = where_true (leaves types (type_named scope first) (type_named scope second) channel) (faults.Range line)
range_in_item types scope line (forms.Used name arguments) = []

abbrev pub range_in_connector : List Typed → Connector → List FlatFault
range_in_connector types c =
    flat_map (λ (p : Parameter). range_in_type types p.term) c.parameters
    ++ flat_map (λ (i : Item). range_in_item types (scope_of types c) i.line i.form) c.items

abbrev pub range_in : List Declaration → Declaration → List FlatFault
range_in before (declarations.Named line name term) = range_in_type (types_of before) term
range_in before (declarations.Made c) = range_in_connector (types_of before) c

-- All breaks of the rule, in text order.
abbrev pub out_of_range : List Declaration → List FlatFault
out_of_range ds = each_after range_in [] ds
