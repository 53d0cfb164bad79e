-- Lines are no part of canonical texts of version 2.
use Rattle.std.proofs.Common.{◌≡◌, ℕ, List, ◌++◌, map, refl, sym, ◌∙◌, ap, codes}
use Rattle.std.specs.List.{flat_map}
use Rattle.reo_trees.specs.declared.items_two.ItemTwo.{ItemTwo}
use Rattle.reo_trees.specs.declared.items_two.FormTwo as form
use Rattle.reo_trees.specs.declared.items_two.FormTwo.{FormTwo}
use Rattle.reo_trees.specs.declared.programs_two.ConnectorTwo.{ConnectorTwo}
use Rattle.reo_trees.specs.declared.programs_two.DeclarationTwo.{DeclarationTwo}
use Rattle.reo_trees.specs.declared.programs_two.DeclarationTwo.TheVariants as declarations
use Rattle.reo_trees.specs.declared.programs_two.ProgramTwo.{ProgramTwo}
use Rattle.reo_syntax.specs.Spread.{spread}
use Rattle.reo_syntax.specs.ItemText.{channel_head, channel_tail}
use Rattle.reo_syntax.specs.Canonical.{parameter_text}
use Rattle.reo_syntax.specs.Unlined.{bare_channel, bare_parameter}
use Rattle.reo_syntax.proofs.Bare.{two-parts, shape-bare, head-bare, tail-bare, flat-bare, spread-bare, parameter-bare}
use Rattle.reo_syntax.specs.two.IndexText.{ref_text}
use Rattle.reo_syntax.specs.two.ItemText.{size_text, head_text, form_text, row_text, line_text, lines_text}
use Rattle.reo_syntax.specs.two.Canonical.{numbered_text, connector_text, declaration_text, canonical_text_two}
use Rattle.reo_syntax.proofs.two.Unfold.{text_loop}
use Rattle.reo_syntax_laws.specs.syntax_two_laws.Unlined.{bare_form, bare_row, bare_item, bare_connector, bare_declaration, SameTwo}

mutual
  form-bare : (indent : List ℕ) (f : FormTwo) → form_text indent (bare_form f) ≡ form_text indent f
  form-bare indent (form.Node name size term) = ap (λ z. codes "node " ++ (name ++ ((size_text size ++ codes ": ") ++ (z ++ codes ";")))) (shape-bare term.shape)
  form-bare indent (form.Joined c x y) =
      two-parts (λ a b. a ++ ((ref_text x ++ codes " ") ++ (ref_text y ++ (b ++ codes ";")))) (channel_head (bare_channel c)) (channel_tail (bare_channel c)) (channel_head c) (channel_tail c) (head-bare c) (tail-bare c)
  form-bare indent (form.Used name number arguments) = refl
  form-bare indent (form.Loop' variable low high m row) =
      text_loop indent variable low high (bare_row row) ∙ ap (λ z. head_text variable low high ++ (z ++ (indent ++ codes "}"))) (row-bare (indent ++ codes "  ") row)

  row-bare : (indent : List ℕ) {m : _} (row : form.Row_of-ItemTwo m) → lines_text indent (bare_row row) ≡ row_text indent row
  row-bare indent form.end_of-ItemTwo = refl
  row-bare indent (form.more_of-ItemTwo line f rest) =
      two-parts (λ a b. (indent ++ (a ++ codes "\n")) ++ b) (form_text indent (bare_form f)) (lines_text indent (bare_row rest)) (form_text indent f) (row_text indent rest) (form-bare indent f) (row-bare indent rest)

lines-bare : (indent : List ℕ) (is : List ItemTwo) → lines_text indent (map bare_item is) ≡ lines_text indent is
lines-bare indent is = flat-bare (line_text indent) bare_item (λ i. ap (λ z. indent ++ (z ++ codes "\n")) (form-bare indent i.form)) is

connector-bare : (c : ConnectorTwo) → connector_text (bare_connector c) ≡ connector_text c
connector-bare c =
    two-parts (λ a b. (codes "connector " ++ (c.name ++ ((numbered_text c.number ++ codes "(") ++ (a ++ codes ") ")))) ++ (codes "{\n" ++ (b ++ codes "}\n")))
    (spread parameter_text (map bare_parameter c.parameters)) (lines_text (codes "  ") (map bare_item c.items)) (spread parameter_text c.parameters) (lines_text (codes "  ") c.items)
    (spread-bare parameter_text bare_parameter parameter-bare c.parameters) (lines-bare (codes "  ") c.items)

declaration-bare : (d : DeclarationTwo) → declaration_text (bare_declaration d) ≡ declaration_text d
declaration-bare (declarations.Named l n t) = ap (λ z. codes "type " ++ ((n ++ codes " = ") ++ (z ++ codes ";\n"))) (shape-bare t.shape)
declaration-bare (declarations.Made c) = connector-bare c

declarations-bare : (ds : List DeclarationTwo) → flat_map declaration_text (map bare_declaration ds) ≡ flat_map declaration_text ds
declarations-bare ds = flat-bare declaration_text bare_declaration declaration-bare ds

-- Programs that are the same, lines aside, have one canonical text.
pub lines-aside : (p q : ProgramTwo) → SameTwo p q → canonical_text_two p ≡ canonical_text_two q
lines-aside p q e =
    ap (λ l. codes "reo 2\n" ++ l) (sym (declarations-bare p.declarations)) ∙ ap canonical_text_two e ∙ ap (λ l. codes "reo 2\n" ++ l) (declarations-bare q.declarations)
