-- What items put at the nodes of their connector.
use Rattle.std.specs.Prelude.{ℕ, Bool, true, not, ◌&&◌, cond, List, [], ◌∷◌, map, bytes_eq}
use Rattle.std.specs.List.{list_any, flat_map, zip}
use Rattle.reo_trees.specs.declared.items.Item.{Item}
use Rattle.reo_trees.specs.declared.items.ItemForm.{ItemForm}
use Rattle.reo_trees.specs.declared.items.ItemForm.TheVariants as forms
use Rattle.reo_trees.specs.declared.programs.Parameter.{Parameter}
use Rattle.reo_trees.specs.declared.programs.Connector.{Connector}
use Rattle.reo_rules.specs.Scopes.{parameters_named}
use Rattle.reo_rules.specs.Channels.{is_drain}

-- Whether two truth values are the same.
abbrev pub bool_eq : Bool → Bool → Bool
bool_eq a b = cond a b (not b)

-- An end at a name of a connector: a source end, where items leave the node, or a sink end.
pub record Touch : Type 0 where
  pub name : List ℕ
  pub is_source : Bool

abbrev pub touch : List ℕ → Bool → Touch
touch name is_source = record { name = name; is_source = is_source }

-- The ends that an item puts at names, in text order. An argument for an `in` parameter counts as a source end, one for `out` as a sink end.
abbrev pub touches_in : List Connector → ItemForm → List Touch
touches_in known (forms.Node name term) = []
touches_in known (forms.Joined channel first second) = touch first true ∷ touch second (is_drain channel) ∷ []
touches_in known (forms.Used name arguments) = map (λ (q : List ℕ × Parameter). touch q.0 q.1.inward) (zip arguments (parameters_named known name))

-- All ends at names of a connector.
abbrev pub touches_of : List Connector → Connector → List Touch
touches_of known c = flat_map (λ (i : Item). touches_in known i.form) c.items

-- Whether an end of this way is among these at a name.
abbrev pub is_touched : List Touch → List ℕ → Bool → Bool
is_touched ts name is_source = list_any (λ (t : Touch). bytes_eq name t.name && bool_eq t.is_source is_source) ts
