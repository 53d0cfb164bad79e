-- Names that are not declared before their place.
use Rattle.std.specs.Prelude.{ℕ, not, cond, List, [], ◌∷◌, ◌++◌}
use Rattle.std.specs.List.{flat_map}
use Rattle.reo_values.specs.declared.kindred.Kindred as kindred
use Rattle.reo_values.specs.declared.kindred.Kindred.{Kindred}
use Rattle.reo_trees.specs.declared.types.Shape as shape
use Rattle.reo_trees.specs.declared.types.Shape.{Shape}
use Rattle.reo_trees.specs.declared.types.TypeTerm.{TypeTerm}
use Rattle.reo_trees.specs.declared.terms.Term.{Term}
use Rattle.reo_trees.specs.declared.items.Item.{Item}
use Rattle.reo_trees.specs.declared.items.ItemForm.{ItemForm}
use Rattle.reo_trees.specs.declared.items.ItemForm.TheVariants as forms
use Rattle.reo_trees.specs.declared.items.Channel.{Channel}
use Rattle.reo_trees.specs.declared.items.Channel.TheVariants as channels
use Rattle.reo_trees.specs.declared.programs.Parameter.{Parameter}
use Rattle.reo_trees.specs.declared.programs.Connector.{Connector}
use Rattle.reo_trees.specs.declared.programs.Declaration.{Declaration}
use Rattle.reo_trees.specs.declared.programs.Declaration.TheVariants as declarations
use Rattle.reo_rules.specs.declared.fault.FlatFault.{FlatFault}
use Rattle.reo_rules.specs.declared.fault.FlatFault.TheVariants as faults
use Rattle.reo_rules.specs.Lists.{each_after, where_true, has_name}
use Rattle.reo_rules.specs.Types.{Typed, parts_of, types_of, type_named, names_of}
use Rattle.reo_rules.specs.Terms.{Symbol, symbols_in}
use Rattle.reo_rules.specs.Scopes.{connector_names, parameter_names, node_names}

-- The break where a name is none of these.
abbrev pub missing : List (List ℕ) → ℕ → List ℕ → List FlatFault
missing known line name = where_true (not (has_name known name)) (faults.Unknown line name)

-- In one written type, and in it and the types in it.
abbrev pub unknown_in_part : List (List ℕ) → ℕ → Shape → List FlatFault
unknown_in_part types line (shape.Named name) = missing types line name
unknown_in_part types line s = []

abbrev pub unknown_in_type : List (List ℕ) → TypeTerm → List FlatFault
unknown_in_type types t = flat_map (λ (part : TypeTerm). unknown_in_part types part.line part.shape) (parts_of t.line t.shape)

-- The break where the type is a sym type that lacks the symbol.
abbrev pub lacking : Kindred → ℕ → List ℕ → List FlatFault
lacking (kindred.Sym names) line symbol = missing names line symbol
lacking k line symbol = []

-- In `T.s`, and in all of these in an expression.
abbrev pub unknown_symbol : List Typed → Symbol → List FlatFault
unknown_symbol types s = cond (has_name (names_of types) s.type) (lacking (type_named types s.type) s.line s.symbol) (faults.Unknown s.line s.type ∷ [])

abbrev pub unknown_in_term : List Typed → Term → List FlatFault
unknown_in_term types t = flat_map (unknown_symbol types) (symbols_in t.line t.form)

abbrev pub unknown_in_channel : List Typed → Channel → List FlatFault
unknown_in_channel types (channels.Filter t) = unknown_in_term types t
unknown_in_channel types (channels.Map t) = unknown_in_term types t
unknown_in_channel types c = []

-- In an item, by the types, connectors and nodes that are known there.
abbrev pub unknown_in_item : List Typed → List (List ℕ) → List (List ℕ) → ℕ → ItemForm → List FlatFault
unknown_in_item types connectors nodes line (forms.Node name term) = unknown_in_type (names_of types) term
unknown_in_item types connectors nodes line (forms.Joined channel first second) = missing nodes line first ++ missing nodes line second ++ unknown_in_channel types channel
unknown_in_item types connectors nodes line (forms.Used name arguments) = missing connectors line name ++ flat_map (missing nodes line) arguments

abbrev pub unknown_in_connector : List Typed → List (List ℕ) → Connector → List FlatFault
unknown_in_connector types connectors c =
    flat_map (λ (p : Parameter). unknown_in_type (names_of types) p.term) c.parameters
    ++ each_after (λ before (i : Item). unknown_in_item types connectors (parameter_names c.parameters ++ node_names before) i.line i.form) [] c.items

abbrev pub unknown_in : List Declaration → Declaration → List FlatFault
unknown_in before (declarations.Named line name term) = unknown_in_type (names_of (types_of before)) term
unknown_in before (declarations.Made c) = unknown_in_connector (types_of before) (connector_names before) c

-- All breaks of the rule, in text order.
abbrev pub unknown : List Declaration → List FlatFault
unknown ds = each_after unknown_in [] ds
