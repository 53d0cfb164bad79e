-- Items whose types do not fit.
use Rattle.std.specs.Prelude.{ℕ, Bool, false, not, ◌&&◌, ◌||◌, Option, Some, None, is_none, List, []}
use Rattle.std.specs.List.{list_any, flat_map, zip}
use Rattle.reo_values.specs.declared.kindred.Kindred.{Kindred}
use Rattle.reo_values.specs.declared.kindred.Kindred.TheVariants as kinds
use Rattle.reo_exprs.specs.declared.expr.Expr.{Expr}
use Rattle.reo_exprs.specs.Kinds.{kind_of}
use Rattle.reo_exprs.specs.Typing.{kind_of_expr}
use Rattle.reo_trees.specs.declared.literals.Literal.{Literal}
use Rattle.reo_trees.specs.declared.items.Item.{Item}
use Rattle.reo_trees.specs.declared.items.ItemForm.{ItemForm}
use Rattle.reo_trees.specs.declared.items.ItemForm.TheVariants as forms
use Rattle.reo_trees.specs.declared.items.Channel.{Channel}
use Rattle.reo_trees.specs.declared.items.Channel.TheVariants as channels
use Rattle.reo_trees.specs.declared.programs.Parameter.{Parameter}
use Rattle.reo_trees.specs.declared.programs.Connector.{Connector}
use Rattle.reo_trees.specs.declared.programs.Declaration.{Declaration}
use Rattle.reo_trees.specs.declared.programs.Declaration.TheVariants as declarations
use Rattle.reo_rules.specs.declared.fault.FlatFault.{FlatFault}
use Rattle.reo_rules.specs.declared.fault.FlatFault.TheVariants as faults
use Rattle.reo_rules.specs.Lists.{each_after, where_true}
use Rattle.reo_rules.specs.Types.{Typed, types_of, type_named, resolved, is_same}
use Rattle.reo_rules.specs.Terms.{expr_of}
use Rattle.reo_rules.specs.literals.Items.{item_of}
use Rattle.reo_rules.specs.Scopes.{connectors_of, parameters_named, scope_of}
use Rattle.reo_rules.specs.Channels.{keeps_type, literals_of}

-- The expression has a kind, and it is this one.
abbrev pub is_kind : Kindred → Option Kindred → Bool
is_kind want (Some k) = is_same k want
is_kind want None = false

abbrev pub has_kind : Kindred → Kindred → Option Expr → Bool
has_kind of want (Some e) = is_kind want (kind_of_expr e of)
has_kind of want None = false

-- The expression of a channel between nodes of two types does not fit.
abbrev pub misfits : List Typed → Kindred → Kindred → Channel → Bool
misfits types a b (channels.Filter t) = not (has_kind a kinds.Bool (expr_of types t.form))
misfits types a b (channels.Map t) = not (has_kind a (kind_of b) (expr_of types t.form))
misfits types a b c = false

abbrev pub is_channel_mistyped : List Typed → Kindred → Kindred → Channel → Bool
is_channel_mistyped types a b c = (keeps_type c && not (is_same a b)) || list_any (λ (l : Literal). is_none (item_of a l)) (literals_of c) || misfits types a b c

-- Some argument has another type than the parameter of its place.
abbrev pub is_use_mistyped : List Typed → List Typed → List (List ℕ) → List Parameter → Bool
is_use_mistyped types scope arguments ps = list_any (λ (q : List ℕ × Parameter). not (is_same (type_named scope q.0) (resolved types q.1.term.shape))) (zip arguments ps)

abbrev pub is_mistyped : List Typed → List Connector → List Typed → ItemForm → Bool
is_mistyped types known scope (forms.Node name term) = false
is_mistyped types known scope (forms.Joined channel first second) = is_channel_mistyped types (type_named scope first) (type_named scope second) channel
is_mistyped types known scope (forms.Used name arguments) = is_use_mistyped types scope arguments (parameters_named known name)

abbrev pub mistyped_in : List Declaration → Declaration → List FlatFault
mistyped_in before (declarations.Named line name term) = []
mistyped_in before (declarations.Made c) =
    flat_map (λ (i : Item). where_true (is_mistyped (types_of before) (connectors_of before) (scope_of (types_of before) c) i.form) (faults.Mistyped i.line)) c.items

-- All breaks of the rule, in text order.
abbrev pub mistyped : List Declaration → List FlatFault
mistyped ds = each_after mistyped_in [] ds
