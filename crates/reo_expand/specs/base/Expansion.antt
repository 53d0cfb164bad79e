-- The program that a program of the second version stands for.
use Rattle.std.specs.Prelude.{ℕ, ◌+◌, ℤ, pos, Bool, false, Option, Some, None, List, [], ◌∷◌, ◌++◌, map, filter, bytes_eq, flat_map, codes}
use Rattle.std.specs.List.{range_with_len, list_any}
use Rattle.std.specs.Fmt.{signed_decimal}
use Rattle.reo_trees.specs.declared.indexes.Index.{Index}
use Rattle.reo_trees.specs.declared.indexes.Ref.{Ref}
use Rattle.reo_trees.specs.declared.items.Item.{Item}
use Rattle.reo_trees.specs.declared.items.ItemForm.{ItemForm}
use Rattle.reo_trees.specs.declared.items.ItemForm.TheVariants as plain
use Rattle.reo_trees.specs.declared.items_two.ItemTwo.{ItemTwo}
use Rattle.reo_trees.specs.declared.items_two.FormTwo as form
use Rattle.reo_trees.specs.declared.items_two.FormTwo.{FormTwo}
use Rattle.reo_trees.specs.declared.programs.Connector.{Connector}
use Rattle.reo_trees.specs.declared.programs.Declaration.{Declaration}
use Rattle.reo_trees.specs.declared.programs.Declaration.TheVariants as declarations
use Rattle.reo_trees.specs.declared.programs.Program.{Program}
use Rattle.reo_trees.specs.declared.programs_two.ConnectorTwo.{ConnectorTwo}
use Rattle.reo_trees.specs.declared.programs_two.DeclarationTwo.{DeclarationTwo}
use Rattle.reo_trees.specs.declared.programs_two.DeclarationTwo.TheVariants as two
use Rattle.reo_trees.specs.declared.programs_two.ProgramTwo.{ProgramTwo}
use Rattle.reo_expand.specs.declared.base.bound.Bound.{Bound}
use Rattle.reo_expand.specs.declared.base.bound.Instance.{Instance}
use Rattle.reo_expand.specs.base.Indexed.{value_of, natural, turns}

-- `name.3` and `name<3>`.
abbrev pub placed_name : List ℕ → ℤ → List ℕ
placed_name name z = name ++ (codes "." ++ signed_decimal z)

abbrev pub numbered_name : List ℕ → ℤ → List ℕ
numbered_name name z = name ++ (codes "<" ++ (signed_decimal z ++ codes ">"))

-- The name of the node that an item names.
abbrev pub name_at : List Bound → List ℕ → Option Index → List ℕ
name_at bound name None = name
name_at bound name (Some i) = placed_name name (value_of bound i)

abbrev pub ref_name : List Bound → Ref → List ℕ
ref_name bound r = name_at bound r.name r.place

-- The name of the connector that an item uses.
abbrev pub used_name : List Bound → List ℕ → Option Index → List ℕ
used_name bound name None = name
used_name bound name (Some i) = numbered_name name (value_of bound i)

abbrev pub on_line : ℕ → ItemForm → Item
on_line line f = record { line = line; form = f }

-- The nodes of an array, or the one node.
abbrev pub node_names : List Bound → List ℕ → Option Index → List (List ℕ)
node_names bound name None = name ∷ []
node_names bound name (Some size) = map (λ j. placed_name name (pos j)) (range_with_len 0 (natural (value_of bound size)))

abbrev pub with_bound : List Bound → List ℕ → ℤ → List Bound
with_bound bound name z = bound ++ record { name = name; value = z } ∷ []

abbrev mutual
  -- The items that an item stands for, where these names have these values.
  pub items_of : List Bound → ℕ → FormTwo → List Item
  items_of bound line (form.Node name size term) = map (λ n. on_line line (plain.Node n term)) (node_names bound name size)
  items_of bound line (form.Joined channel first second) = on_line line (plain.Joined channel (ref_name bound first) (ref_name bound second)) ∷ []
  items_of bound line (form.Used name number arguments) = on_line line (plain.Used (used_name bound name number) (map (ref_name bound) arguments)) ∷ []
  items_of bound line (form.Loop' variable low high m row) = flat_map (λ z. items_of_row (with_bound bound variable z) row) (turns (value_of bound low) (value_of bound high))

  pub items_of_row : List Bound → {m : _} → form.Row_of-ItemTwo m → List Item
  items_of_row bound form.end_of-ItemTwo = []
  items_of_row bound (form.more_of-ItemTwo line f rest) = items_of bound line f ++ items_of_row bound rest

abbrev pub items_in : List Bound → List ItemTwo → List Item
items_in bound items = flat_map (λ (i : ItemTwo). items_of bound i.line i.form) items

abbrev pub connector_for : ConnectorTwo → Instance → Connector
connector_for c i = record { line = c.line; name = i.name; parameters = c.parameters; items = items_in i.bound c.items }

-- An item uses the connector of this name.
abbrev pub is_use_of : List ℕ → ItemForm → Bool
is_use_of name (plain.Used n arguments) = bytes_eq name n
is_use_of name f = false

abbrev pub has_use : List Connector → List ℕ → Bool
has_use later name = list_any (λ (c : Connector). list_any (λ (i : Item). is_use_of name i.form) c.items) later

-- The greatest number of a connector, and the greatest size of an array.
abbrev pub most_number : ℕ
most_number = 4096

-- A connector without a number is made once. One with a number is made for each value with which a connector that
-- stands behind, as it was made, uses it, in increasing order.
abbrev pub instances_by : List Connector → List ℕ → Option (List ℕ) → List Instance
instances_by later name None = record { name = name; bound = [] } ∷ []
instances_by later name (Some number) =
    map (λ k. record { name = numbered_name name (pos k); bound = record { name = number; value = pos k } ∷ [] })
    (filter (λ k. has_use later (numbered_name name (pos k))) (range_with_len 0 (most_number + 1)))

abbrev pub instances_of : List Connector → ConnectorTwo → List Instance
instances_of later c = instances_by later c.name c.number

abbrev pub connector_in : Declaration → List Connector
connector_in (declarations.Named line name term) = []
connector_in (declarations.Made c) = c ∷ []

abbrev pub connectors_of : List Declaration → List Connector
connectors_of ds = flat_map connector_in ds

-- What a declaration stands for, by the connectors that stand behind it, as they were made.
abbrev pub declared_by : List Connector → DeclarationTwo → List Declaration
declared_by later (two.Named line name term) = declarations.Named line name term ∷ []
declared_by later (two.Made c) = map (λ i. declarations.Made (connector_for c i)) (instances_of later c)

-- What declarations stand for, each by those behind it.
abbrev pub expanded : List DeclarationTwo → List Declaration
expanded [] = []
expanded (d ∷ ds) = declared_by (connectors_of (expanded ds)) d ++ expanded ds

abbrev pub expansion : ProgramTwo → Program
expansion p = record { declarations = expanded p.declarations }
