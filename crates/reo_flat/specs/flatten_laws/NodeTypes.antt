-- The nodes that a program unfolds to, with their types.
use Rattle.std.specs.Prelude.{ℕ, ◌≡◌, List, [], ◌∷◌, ◌++◌, map, unwrap_or, bytes_eq, codes}
use Rattle.std.specs.List.{find}
use Rattle.reo_trees.specs.declared.items.Item.{Item}
use Rattle.reo_trees.specs.declared.items.ItemForm.{ItemForm}
use Rattle.reo_trees.specs.declared.items.ItemForm.TheVariants as forms
use Rattle.reo_trees.specs.declared.programs.Connector.{Connector}
use Rattle.reo_trees.specs.declared.programs.Declaration.{Declaration}
use Rattle.reo_trees.specs.declared.programs.Declaration.TheVariants as declarations
use Rattle.reo_rules.specs.Lists.{each_after}
use Rattle.reo_rules.specs.Types.{Typed, types_of, names_of, resolved}
use Rattle.reo_rules.specs.Scopes.{parameter_type}
use Rattle.reo_flat.specs.Unfolding.{use_path}
use Rattle.reo_flat.specs.Flat.{main_parameters, nodes_of}

-- The nodes that a connector comes to where it is used, with their types, by the path of the use.
pub record Typing : Type 0 where
  pub name : List ℕ
  pub nodes : List ℕ → List Typed

abbrev pub no_typing : Typing
no_typing = record { name = []; nodes = λ path. [] }

abbrev pub typing_named : List Typing → List ℕ → Typing
typing_named known name = unwrap_or (find (λ (t : Typing). bytes_eq name t.name) known) no_typing

-- Those that an item declares behind these.
abbrev pub typed_in : List Typing → List Typed → List ℕ → List Item → ItemForm → List Typed
typed_in known types path before (forms.Node name term) = record { name = path ++ name; kindred = resolved types term.shape } ∷ []
typed_in known types path before (forms.Joined channel first second) = []
typed_in known types path before (forms.Used name arguments) = (typing_named known name).nodes (use_path path before name)

-- Those of a connector behind known types and connectors.
abbrev pub typing_of : List Typing → List Typed → Connector → Typing
typing_of known types c = record {
  name = c.name;
  nodes = λ path. each_after (λ before (i : Item). typed_in known types path before i.form) [] c.items;
}

-- Those of all connectors, declaration by declaration.
abbrev pub typings_after : List Typing → List Typed → List Declaration → List Typing
typings_after known types [] = known
typings_after known types (declarations.Named line name term ∷ ds) = typings_after known (types ++ record { name = name; kindred = resolved types term.shape } ∷ []) ds
typings_after known types (declarations.Made c ∷ ds) = typings_after (known ++ typing_of known types c ∷ []) types ds

abbrev pub typings_of : List Declaration → List Typing
typings_of ds = typings_after [] [] ds

-- The nodes of a program with their types: those of the ports, and then those that `main` declares.
abbrev pub node_types_of : List Declaration → List Typed
node_types_of ds = map (parameter_type (types_of ds)) (main_parameters ds) ++ (typing_named (typings_of ds) (codes "main")).nodes []

-- They are the nodes, one for one.
abbrev pub NodesHaveTypes : Type 0
NodesHaveTypes = (ds : List Declaration) → names_of (node_types_of ds) ≡ nodes_of ds
