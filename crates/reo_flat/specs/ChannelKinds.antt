-- The primitive that a channel is, with its types resolved.
use Rattle.std.specs.Prelude.{◌≡◌, refl, Option, Some, None, List, option_and_then}
use Rattle.reo_values.specs.declared.kindred.Kindred as kindred
use Rattle.reo_values.specs.declared.kindred.Kindred.{Kindred}
use Rattle.reo_exprs.specs.declared.expr.Expr.{Expr}
use Rattle.reo_exprs.specs.Typing.{type_of_expr}
use Rattle.reo_buffers.specs.Stored.{stored}
use Rattle.reo_kinds.specs.declared.kind.Kind.{Kind}
use Rattle.reo_kinds.specs.declared.kind.Kind.TheVariants as primitives
use Rattle.reo_trees.specs.declared.items.Channel.{Channel}
use Rattle.reo_trees.specs.declared.items.Channel.TheVariants as channels
use Rattle.reo_rules.specs.literals.Items.{item_of, items_of}
use Rattle.reo_rules.specs.Types.{Typed}
use Rattle.reo_rules.specs.Terms.{expr_of}
use Rattle.reo_rules.specs.Channels.{literals_of}

-- A filter, where the expression's type is that of truth values; else a `sync`, which no accepted program has for it.
abbrev pub filter_with : (e : Expr) (of : Kindred) (t : Option Kindred) → type_of_expr e of ≡ t → Kind
filter_with e of (Some kindred.Bool) is = primitives.Filter (record { of = of; expr = e; typed = is })
filter_with e of t is = primitives.Sync

abbrev pub filter_kind : Kindred → Option Expr → Kind
filter_kind of (Some e) = filter_with e of (type_of_expr e of) refl
filter_kind of None = primitives.Sync

-- A map, where the expression has a type; else a `sync`.
abbrev pub map_with : (e : Expr) (of : Kindred) (t : Option Kindred) → type_of_expr e of ≡ t → Kind
map_with e of (Some t) is = primitives.Map (record { of = of; expr = e; typed = (t, is) })
map_with e of None is = primitives.Sync

abbrev pub map_kind : Kindred → Option Expr → Kind
map_kind of (Some e) = map_with e of (type_of_expr e of) refl
map_kind of None = primitives.Sync

-- The channel whose first node has this type.
abbrev pub channel_kind : List Typed → Kindred → Channel → Kind
channel_kind types of channels.Sync = primitives.Sync
channel_kind types of channels.Lossy = primitives.Lossy
channel_kind types of channels.SyncDrain = primitives.SyncDrain
channel_kind types of channels.AsyncDrain = primitives.AsyncDrain
channel_kind types of (channels.Fifo1 held) = primitives.Store (stored 1 (items_of of (literals_of (channels.Fifo1 held))))
channel_kind types of (channels.Fifo size held) = primitives.Store (stored size (items_of of held))
channel_kind types of (channels.Filter t) = filter_kind of (expr_of types t.form)
channel_kind types of (channels.Map t) = map_kind of (expr_of types t.form)
channel_kind types of (channels.Shift size held) = primitives.Shift (stored size (items_of of held))
channel_kind types of (channels.Variable held) = primitives.Variable (option_and_then (item_of of) held)
channel_kind types of (channels.Quota number) = primitives.Quota number
