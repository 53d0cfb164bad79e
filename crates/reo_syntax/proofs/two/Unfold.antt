-- The text of a loop, by the list of its items.
use Rattle.std.proofs.Common.{◌≡◌, ◌∙◌, ℕ, List, ◌++◌, codes, refl, ap}
use mathlib.Core.Former.{Count}
use Rattle.reo_trees.specs.declared.indexes.Index.{Index}
use Rattle.reo_trees.specs.declared.items_two.ItemTwo.{ItemTwo}
use Rattle.reo_trees.specs.declared.items_two.FormTwo.{FormTwo, Loop, Loop', Row_of-ItemTwo, end_of-ItemTwo, more_of-ItemTwo, items-the_row-ItemTwo, items_hidden-the_row-ItemTwo-0}
use Rattle.reo_syntax.specs.two.ItemText.{head_text, form_text, row_text, line_text, lines_text}

abbrev row_of : FormTwo → (n : Count) × Row_of-ItemTwo n
row_of (Loop' variable low high m row) = (_, row)
row_of f = (_, end_of-ItemTwo)

pub text_row : (indent : List ℕ) (m : _) (row : Row_of-ItemTwo m) → row_text indent row ≡ lines_text indent (items-the_row-ItemTwo m row)
text_row indent m end_of-ItemTwo = refl
text_row indent m (more_of-ItemTwo line f rest) = ap (λ t. line_text indent (record { line = line; form = f }) ++ t) (text_row indent _ rest)

pub text_loop : (indent : List ℕ) (variable : List ℕ) (low high : Index) (items : List ItemTwo)
    → form_text indent (Loop variable low high items) ≡ head_text variable low high ++ (lines_text (indent ++ codes "  ") items ++ (indent ++ codes "}"))
text_loop indent variable low high items =
    let row = row_of (Loop variable low high items) in
    ap (λ t. head_text variable low high ++ (t ++ (indent ++ codes "}")))
    (text_row (indent ++ codes "  ") row.0 row.1 ∙ ap (lines_text (indent ++ codes "  ")) (items_hidden-the_row-ItemTwo-0 items))
