-- The names of one connector.
use Rattle.std.specs.Prelude.{ℕ, ◌≡◌, false, Option, Some, None, List, [], ◌∷◌, ◌++◌, length}
use Rattle.reo_trees.specs.declared.items.Item.{Item}
use Rattle.reo_trees.specs.declared.items.ItemForm.{ItemForm}
use Rattle.reo_trees.specs.declared.items.ItemForm.TheVariants as forms
use Rattle.reo_trees.specs.declared.types.Shape.{Shape}
use Rattle.reo_trees.specs.declared.programs.Connector.{Connector}
use Rattle.reo_rules.specs.Lists.{each_after, has_name}
use Rattle.reo_rules.specs.Scopes.{parameter_names, node_names}
use Rattle.reo_unfold.specs.declared.local.Local.{Local}

-- The place of an item among others, where it declares a node.
abbrev pub node_place : ℕ → ItemForm → List ℕ
node_place place (forms.Node name term) = place ∷ []
node_place place f = []

-- The places of the items that declare nodes.
abbrev pub node_places : List Item → List ℕ
node_places is = each_after (λ before (i : Item). node_place (length before) i.form) [] is

-- The names are those of the parameters and then of the nodes, whose items stand at these places.
pub record IsLocal (c : Connector) (local : Local) : Type 0 where
  pub names : local.names ≡ parameter_names c.parameters ++ node_names c.items
  pub nodes : local.nodes ≡ node_places c.items

-- The node that an item declares is not among these.
abbrev pub IsNew : List (List ℕ) → ItemForm → Type 0
IsNew names (forms.Node name term) = has_name names name ≡ false
IsNew names f = Unit {0}

-- The type with which an item declares a node.
abbrev pub shape_in : ItemForm → Option Shape
shape_in (forms.Node name term) = Some term.shape
shape_in f = None
