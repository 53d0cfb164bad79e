-- The text of a circuit's parts.
use Rattle.std.specs.Prelude.{ℕ, suc, ◌++◌, List, [], ◌∷◌, length, slice_index_or, codes}
use Rattle.std.specs.Fmt.{decimal}
use Rattle.reo_net_base.specs.declared.joint.Joint.{Joint}
use Rattle.reo_net_base.specs.Net.{end_of}
use Rattle.reo_kinds.specs.declared.kind.Kind.{Kind}
use Rattle.reo_top.specs.inventory.Ends.{home_of}
use Rattle.reo_top.specs.inventory.Kinds.{word_of, number_of, number_text, has_two, nodes_text}

-- The line of a primitive: its number, what it is, and its nodes.
unfoldable pub line_of : ℕ → Kind → List ℕ → List ℕ → List ℕ
line_of number kind first second =
    decimal number ++ codes " " ++ word_of kind ++ codes " " ++ number_text (number_of kind)
    ++ nodes_text (has_two kind) first second ++ codes "\n"

-- The name of the node of an end.
abbrev pub name_of : List Joint → List ℕ → List (List ℕ) → ℕ → ℕ → List ℕ
name_of joints homes names primitive end = slice_index_or names (home_of joints homes (end_of primitive end)) []

-- The lines of primitives, from this number on.
abbrev pub lines_from : List Joint → List ℕ → List (List ℕ) → ℕ → List Kind → List ℕ
lines_from joints homes names i [] = []
lines_from joints homes names i (kind ∷ kinds) =
    line_of i kind (name_of joints homes names i 0) (name_of joints homes names i 1) ++ lines_from joints homes names (suc i) kinds

-- The line that says how many there are.
unfoldable pub count_line : ℕ → ℕ → List ℕ
count_line primitives joints = codes "accepted: " ++ decimal primitives ++ codes " primitives, " ++ decimal joints ++ codes " joints\n"

-- A line for each primitive, and then how many primitives and joints there are.
abbrev pub parts_text : List Kind → List Joint → List ℕ → List (List ℕ) → List ℕ
parts_text kinds joints homes names = lines_from joints homes names 0 kinds ++ count_line (length kinds) (length joints)
