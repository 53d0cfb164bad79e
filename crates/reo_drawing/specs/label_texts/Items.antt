-- Items whose type is not at hand.
use Rattle.std.specs.Prelude.{ℕ, ◌++◌, List, codes}
use Rattle.std.specs.Fmt.{decimal, signed_decimal}
use Rattle.reo_values.specs.ItemText.{quoted, truth_text}
use Rattle.reo_values.specs.declared.value.Value as value
use Rattle.reo_values.specs.declared.value.Value.{Value}

-- An item without its type: a name by its place among the names of the type, from 0.
abbrev pub item_text : Value → List ℕ
item_text value.Unit = codes "unit"
item_text (value.Bool b) = truth_text b
item_text (value.Int z) = signed_decimal z
item_text (value.Sym k) = codes "#" ++ decimal k
item_text (value.Text bytes) = quoted bytes
item_text (value.Pair' m (value.more_of-Couple x y _)) = codes "(" ++ (item_text x ++ (codes "," ++ (item_text y ++ codes ")")))
