-- The canonical text of items of version 2.
use Rattle.std.specs.Prelude.{ℕ, Option, Some, None, List, [], ◌++◌, codes}
use Rattle.std.specs.List.{flat_map}
use Rattle.reo_trees.specs.declared.types.TypeTerm.{TypeTerm}
use Rattle.reo_trees.specs.declared.items.Channel.{Channel}
use Rattle.reo_trees.specs.declared.indexes.Index.{Index}
use Rattle.reo_trees.specs.declared.indexes.Ref.{Ref}
use Rattle.reo_trees.specs.declared.items_two.ItemTwo.{ItemTwo}
use Rattle.reo_trees.specs.declared.items_two.FormTwo as form
use Rattle.reo_trees.specs.declared.items_two.FormTwo.{FormTwo}
use Rattle.reo_syntax.specs.Spread.{spread}
use Rattle.reo_syntax.specs.TypeText.{type_text}
use Rattle.reo_syntax.specs.ItemText.{channel_head, channel_tail}
use Rattle.reo_syntax.specs.two.IndexText.{index_text, ref_text}

-- The size of an array.
abbrev pub size_text : Option Index → List ℕ
size_text None = []
size_text (Some i) = codes ".(" ++ (index_text i ++ codes ")")

-- The number of the connector that is used.
abbrev pub number_text : Option Index → List ℕ
number_text None = []
number_text (Some i) = codes "<" ++ (index_text i ++ codes ">")

abbrev pub node_text : List ℕ → Option Index → TypeTerm → List ℕ
node_text name size term = codes "node " ++ (name ++ ((size_text size ++ codes ": ") ++ (type_text term ++ codes ";")))

abbrev pub joined_text : Channel → Ref → Ref → List ℕ
joined_text channel first second = channel_head channel ++ ((ref_text first ++ codes " ") ++ (ref_text second ++ (channel_tail channel ++ codes ";")))

abbrev pub used_text : List ℕ → Option Index → List Ref → List ℕ
used_text name number arguments = codes "use " ++ (name ++ ((number_text number ++ codes "(") ++ (spread ref_text arguments ++ codes ");")))

-- A loop's first line.
abbrev pub head_text : List ℕ → Index → Index → List ℕ
head_text variable low high = codes "for " ++ ((variable ++ codes " = ") ++ ((index_text low ++ codes " to ") ++ (index_text high ++ codes " {\n")))

abbrev mutual
  -- An item behind this indent. A loop's items stand on lines of their own, with an indent of two spaces more.
  pub form_text : List ℕ → FormTwo → List ℕ
  form_text indent (form.Node name size term) = node_text name size term
  form_text indent (form.Joined channel first second) = joined_text channel first second
  form_text indent (form.Used name number arguments) = used_text name number arguments
  form_text indent (form.Loop' variable low high m row) = head_text variable low high ++ (row_text (indent ++ codes "  ") row ++ (indent ++ codes "}"))

  pub row_text : List ℕ → {m : _} → form.Row_of-ItemTwo m → List ℕ
  row_text indent form.end_of-ItemTwo = []
  row_text indent (form.more_of-ItemTwo line f rest) = (indent ++ (form_text indent f ++ codes "\n")) ++ row_text indent rest

abbrev pub line_text : List ℕ → ItemTwo → List ℕ
line_text indent i = indent ++ (form_text indent i.form ++ codes "\n")

-- The items on lines of their own, with this indent before each.
abbrev pub lines_text : List ℕ → List ItemTwo → List ℕ
lines_text indent items = flat_map (line_text indent) items
