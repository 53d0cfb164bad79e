-- Programs of version 2, lines aside.
use Rattle.std.specs.Prelude.{◌≡◌, List, [], ◌∷◌, map}
use Rattle.reo_trees.specs.declared.items_two.ItemTwo.{ItemTwo}
use Rattle.reo_trees.specs.declared.items_two.FormTwo as form
use Rattle.reo_trees.specs.declared.items_two.FormTwo.{FormTwo}
use Rattle.reo_trees.specs.declared.items_two.FormTwo.TheVariants as forms
use Rattle.reo_trees.specs.declared.programs_two.ConnectorTwo.{ConnectorTwo}
use Rattle.reo_trees.specs.declared.programs_two.DeclarationTwo.{DeclarationTwo}
use Rattle.reo_trees.specs.declared.programs_two.DeclarationTwo.TheVariants as declarations
use Rattle.reo_trees.specs.declared.programs_two.ProgramTwo.{ProgramTwo}
use Rattle.reo_syntax.specs.Unlined.{bare_type, bare_channel, bare_parameter}

abbrev mutual
  -- Each with 0 in the place of every line.
  pub bare_form : FormTwo → FormTwo
  bare_form (form.Node name size term) = forms.Node name size (bare_type term)
  bare_form (form.Joined channel first second) = forms.Joined (bare_channel channel) first second
  bare_form (form.Used name number arguments) = forms.Used name number arguments
  bare_form (form.Loop' variable low high m row) = forms.Loop variable low high (bare_row row)

  pub bare_row : {m : _} → form.Row_of-ItemTwo m → List ItemTwo
  bare_row form.end_of-ItemTwo = []
  bare_row (form.more_of-ItemTwo line f rest) = record { line = 0; form = bare_form f } ∷ bare_row rest

abbrev pub bare_item : ItemTwo → ItemTwo
bare_item i = record { line = 0; form = bare_form i.form }

abbrev pub bare_connector : ConnectorTwo → ConnectorTwo
bare_connector c = record { line = 0; name = c.name; number = c.number; parameters = map bare_parameter c.parameters; items = map bare_item c.items }

abbrev pub bare_declaration : DeclarationTwo → DeclarationTwo
bare_declaration (declarations.Named line name term) = declarations.Named 0 name (bare_type term)
bare_declaration (declarations.Made connector) = declarations.Made (bare_connector connector)

abbrev pub bare_program : ProgramTwo → ProgramTwo
bare_program p = record { declarations = map bare_declaration p.declarations }

-- Two programs are the same, lines aside.
abbrev pub SameTwo : ProgramTwo → ProgramTwo → Type 0
SameTwo p q = bare_program p ≡ bare_program q
