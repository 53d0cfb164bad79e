-- Names in a program: types, connectors, and the parameters and nodes of one connector.
use Rattle.std.specs.Prelude.{ℕ, List, [], ◌∷◌, ◌++◌, Option, map, bytes_eq}
use Rattle.std.specs.Option.{option_map_or}
use Rattle.std.specs.List.{flat_map, find}
use Rattle.reo_trees.specs.declared.items.Item.{Item}
use Rattle.reo_trees.specs.declared.items.ItemForm.{ItemForm}
use Rattle.reo_trees.specs.declared.items.ItemForm.TheVariants as forms
use Rattle.reo_trees.specs.declared.programs.Parameter.{Parameter}
use Rattle.reo_trees.specs.declared.programs.Connector.{Connector}
use Rattle.reo_trees.specs.declared.programs.Declaration.{Declaration}
use Rattle.reo_trees.specs.declared.programs.Declaration.TheVariants as declarations
use Rattle.reo_rules.specs.Types.{Typed, resolved}

-- The names of the types and the connectors that are declared.
abbrev pub type_names_in : Declaration → List (List ℕ)
type_names_in (declarations.Named line name term) = name ∷ []
type_names_in (declarations.Made connector) = []

abbrev pub type_names : List Declaration → List (List ℕ)
type_names ds = flat_map type_names_in ds

abbrev pub connectors_in : Declaration → List Connector
connectors_in (declarations.Named line name term) = []
connectors_in (declarations.Made connector) = connector ∷ []

abbrev pub connectors_of : List Declaration → List Connector
connectors_of ds = flat_map connectors_in ds

abbrev pub connector_names : List Declaration → List (List ℕ)
connector_names ds = map (λ (c : Connector). c.name) (connectors_of ds)

-- The first of these connectors that has the name.
abbrev pub connector_named : List Connector → List ℕ → Option Connector
connector_named cs name = find (λ (c : Connector). bytes_eq name c.name) cs

-- The parameters of the connector of this name; none where there is no such connector.
abbrev pub parameters_named : List Connector → List ℕ → List Parameter
parameters_named known name = option_map_or (λ (c : Connector). c.parameters) (connector_named known name) []

-- The names of parameters, and of the nodes that items declare.
abbrev pub parameter_names : List Parameter → List (List ℕ)
parameter_names ps = map (λ (p : Parameter). p.name) ps

abbrev pub node_names_in : ItemForm → List (List ℕ)
node_names_in (forms.Node name term) = name ∷ []
node_names_in f = []

abbrev pub node_names : List Item → List (List ℕ)
node_names is = flat_map (λ (i : Item). node_names_in i.form) is

-- The same with their types.
abbrev pub parameter_type : List Typed → Parameter → Typed
parameter_type types p = record { name = p.name; kindred = resolved types p.term.shape }

abbrev pub node_types_in : List Typed → ItemForm → List Typed
node_types_in types (forms.Node name term) = record { name = name; kindred = resolved types term.shape } ∷ []
node_types_in types f = []

-- The parameters and nodes of a connector with their types, which is what its items speak of.
abbrev pub scope_of : List Typed → Connector → List Typed
scope_of types c = map (parameter_type types) c.parameters ++ flat_map (λ (i : Item). node_types_in types i.form) c.items
