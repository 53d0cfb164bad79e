-- The primitives that channels are.
use Rattle.std.specs.Prelude.{◌≡◌, Some, List, [], ◌∷◌, ◌++◌, map, option_map}
use Rattle.std.specs.List.{All}
use Rattle.reo_values.specs.declared.value.Value.{Value}
use Rattle.reo_values.specs.declared.kindred.Kindred.{Kindred}
use Rattle.reo_kinds.specs.declared.kind.Kind.{Kind}
use Rattle.reo_kinds.specs.declared.kind.Kind.TheVariants as primitives
use Rattle.reo_trees.specs.declared.literals.Literal.{Literal}
use Rattle.reo_trees.specs.declared.items.Item.{Item}
use Rattle.reo_trees.specs.declared.items.ItemForm.{ItemForm}
use Rattle.reo_trees.specs.declared.items.ItemForm.TheVariants as forms
use Rattle.reo_trees.specs.declared.items.Channel.{Channel}
use Rattle.reo_trees.specs.declared.items.Channel.TheVariants as channels
use Rattle.reo_trees.specs.declared.programs.Connector.{Connector}
use Rattle.reo_trees.specs.declared.programs.Declaration.{Declaration}
use Rattle.reo_trees.specs.declared.programs.Declaration.TheVariants as declarations
use Rattle.reo_rules.specs.literals.Items.{item_of}
use Rattle.reo_rules.specs.Types.{Typed, types_of, type_named}
use Rattle.reo_rules.specs.Terms.{expr_of}
use Rattle.reo_rules.specs.Channels.{literals_of}
use Rattle.reo_rules.specs.Scopes.{scope_of}
use Rattle.reo_rules.specs.Mistyped.{mistyped}
use Rattle.reo_rules.specs.Ranges.{out_of_range}
use Rattle.reo_flat.specs.ChannelKinds.{channel_kind}

-- These are the items that the literals are, of this type, one for each.
abbrev pub AreItemsOf : Kindred → List Literal → List Value → Type 0
AreItemsOf of ls items = map (λ v. Some v) items ≡ map (item_of of) ls

-- The primitive is the channel whose first node has this type: a filter or a map of that type by
-- the expression as it is written, a buffer or a shift buffer of its size with an item for each
-- literal, a variable with the item of its literal, a quota of its number.
abbrev pub IsFor : List Typed → Kindred → Channel → Kind → Type 0
IsFor types of channels.Sync primitives.Sync = Unit {0}
IsFor types of channels.Lossy primitives.Lossy = Unit {0}
IsFor types of channels.SyncDrain primitives.SyncDrain = Unit {0}
IsFor types of channels.AsyncDrain primitives.AsyncDrain = Unit {0}
IsFor types of (channels.Fifo1 held) (primitives.Store b) = (b.size ≡ 1) × AreItemsOf of (literals_of (channels.Fifo1 held)) b.items
IsFor types of (channels.Fifo size held) (primitives.Store b) = (b.size ≡ size) × AreItemsOf of held b.items
IsFor types of (channels.Filter t) (primitives.Filter rule) = (rule.of ≡ of) × (expr_of types t.form ≡ Some rule.expr)
IsFor types of (channels.Map t) (primitives.Map rule) = (rule.of ≡ of) × (expr_of types t.form ≡ Some rule.expr)
IsFor types of (channels.Shift size held) (primitives.Shift b) = (b.size ≡ size) × AreItemsOf of held b.items
IsFor types of (channels.Variable held) (primitives.Variable item) = option_map (λ v. Some v) item ≡ option_map (item_of of) held
IsFor types of (channels.Quota number) (primitives.Quota left) = left ≡ number
IsFor types of _ _ = ⊥

-- So is the channel of an item, by the types before its connector and the names in it.
abbrev pub IsForItem : List Typed → List Typed → ItemForm → Type 0
IsForItem types scope (forms.Joined channel first second) = IsFor types (type_named scope first) channel (channel_kind types (type_named scope first) channel)
IsForItem types scope f = Unit {0}

-- The connector stands in the program behind these declarations.
abbrev pub StandsBehind : List Declaration → List Declaration → Connector → Type 0
StandsBehind ds before c = (after : List Declaration) × (ds ≡ before ++ declarations.Made c ∷ after)

-- Each channel of each connector becomes the primitive that it is, and none a stand-in for it.
abbrev pub ChannelsAreKinds : Type 0
ChannelsAreKinds =
    (ds before : List Declaration) (c : Connector) → StandsBehind ds before c
    → mistyped ds ≡ [] → out_of_range ds ≡ []
    → All (λ (i : Item). IsForItem (types_of before) (scope_of (types_of before) c) i.form) c.items
