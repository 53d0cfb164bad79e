-- The unfolding: what a connector comes to, by the connectors that stand before it.
use Rattle.std.specs.Prelude.{ℕ, ◌+◌, max, Bool, true, false, cond, List, [], ◌∷◌, ◌++◌, map, unwrap_or, bytes_eq, codes}
use Rattle.std.specs.List.{find, fold, sum_by, count_by}
use Rattle.std.specs.Fmt.{decimal}
use Rattle.reo_trees.specs.declared.items.Item.{Item}
use Rattle.reo_trees.specs.declared.items.ItemForm.{ItemForm}
use Rattle.reo_trees.specs.declared.items.ItemForm.TheVariants as forms
use Rattle.reo_trees.specs.declared.programs.Parameter.{Parameter}
use Rattle.reo_trees.specs.declared.programs.Connector.{Connector}
use Rattle.reo_trees.specs.declared.programs.Declaration.{Declaration}
use Rattle.reo_trees.specs.declared.programs.Declaration.TheVariants as declarations
use Rattle.reo_rules.specs.Lists.{each_after}
use Rattle.reo_rules.specs.Types.{Typed, type_named, resolved}
use Rattle.reo_rules.specs.Scopes.{scope_of}
use Rattle.reo_kinds.specs.declared.kind.Kind.{Kind}
use Rattle.reo_flat.specs.ChannelKinds.{channel_kind}

-- What is placed, and the flat names of the nodes that its ends are at, in the order of the ends.
pub record Placed : Type 0 where
  pub kind : Kind
  pub nodes : List (List ℕ)

-- What a connector comes to where it is used: its nodes by the path of the use, its channels by the path and the nodes that are its arguments;
-- and how many uses and channels it unfolds to, and how deep uses are nested.
pub record Meaning : Type 0 where
  pub name : List ℕ
  pub nodes : List ℕ → List (List ℕ)
  pub channels : List ℕ → List (List ℕ) → List Placed
  pub uses : ℕ
  pub depth : ℕ
  pub placed : ℕ

abbrev pub no_meaning : Meaning
no_meaning = record { name = []; nodes = λ path. []; channels = λ path arguments. []; uses = 0; depth = 0; placed = 0 }

abbrev pub meaning_named : List Meaning → List ℕ → Meaning
meaning_named known name = unwrap_or (find (λ (m : Meaning). bytes_eq name m.name) known) no_meaning

-- The flat name of a name in a connector: the argument of a parameter, and for a node the path and the name.
abbrev pub flat_name : List ℕ → List Parameter → List (List ℕ) → List ℕ → List ℕ
flat_name path (p ∷ ps) (a ∷ arguments) name = cond (bytes_eq name p.name) a (flat_name path ps arguments name)
flat_name path ps arguments name = path ++ name

abbrev pub is_use : ItemForm → Bool
is_use (forms.Used name arguments) = true
is_use f = false

-- The path of a use of a connector behind these items: `c@i.` behind the path of the connector that it stands in.
abbrev pub use_path : List ℕ → List Item → List ℕ → List ℕ
use_path path before name = path ++ name ++ codes "@" ++ decimal (count_by (λ (i : Item). is_use i.form) before + 1) ++ codes "."

-- The nodes that an item declares behind these, by the path.
abbrev pub nodes_in : List Meaning → List ℕ → List Item → ItemForm → List (List ℕ)
nodes_in known path before (forms.Node name term) = (path ++ name) ∷ []
nodes_in known path before (forms.Joined channel first second) = []
nodes_in known path before (forms.Used name arguments) = (meaning_named known name).nodes (use_path path before name)

-- The channels that an item places behind these, where names stand for flat names.
abbrev pub channels_in : List Meaning → List Typed → List Typed → List ℕ → (List ℕ → List ℕ) → List Item → ItemForm → List Placed
channels_in known types scope path flat before (forms.Node name term) = []
channels_in known types scope path flat before (forms.Joined channel first second) =
    record { kind = channel_kind types (type_named scope first) channel; nodes = flat first ∷ flat second ∷ [] } ∷ []
channels_in known types scope path flat before (forms.Used name arguments) =
    (meaning_named known name).channels (use_path path before name) (map flat arguments)

-- The uses that an item unfolds to, itself among them, and how deep it nests them.
abbrev pub uses_in : List Meaning → ItemForm → ℕ
uses_in known (forms.Used name arguments) = 1 + (meaning_named known name).uses
uses_in known f = 0

-- The channels that an item unfolds to.
abbrev pub placed_in : List Meaning → ItemForm → ℕ
placed_in known (forms.Node name term) = 0
placed_in known (forms.Joined channel first second) = 1
placed_in known (forms.Used name arguments) = (meaning_named known name).placed

abbrev pub depth_in : List Meaning → ItemForm → ℕ
depth_in known (forms.Used name arguments) = 1 + (meaning_named known name).depth
depth_in known f = 0

-- The meaning of a connector behind known types and connectors.
abbrev pub meaning_of : List Meaning → List Typed → Connector → Meaning
meaning_of known types c = record {
  name = c.name;
  nodes = λ path. each_after (λ before (i : Item). nodes_in known path before i.form) [] c.items;
  channels = λ path arguments. each_after (λ before (i : Item). channels_in known types (scope_of types c) path (flat_name path c.parameters arguments) before i.form) [] c.items;
  uses = sum_by (λ (i : Item). uses_in known i.form) c.items;
  placed = sum_by (λ (i : Item). placed_in known i.form) c.items;
  depth = fold (λ most (i : Item). max most (depth_in known i.form)) 0 c.items;
}

-- The meanings of all connectors, declaration by declaration.
abbrev pub meanings_after : List Meaning → List Typed → List Declaration → List Meaning
meanings_after known types [] = known
meanings_after known types (declarations.Named line name term ∷ ds) = meanings_after known (types ++ record { name = name; kindred = resolved types term.shape } ∷ []) ds
meanings_after known types (declarations.Made c ∷ ds) = meanings_after (known ++ meaning_of known types c ∷ []) types ds

abbrev pub meanings_of : List Declaration → List Meaning
meanings_of ds = meanings_after [] [] ds
