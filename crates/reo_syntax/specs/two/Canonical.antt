-- The canonical text of circuit programs of version 2.
use Rattle.std.specs.Prelude.{ℕ, Option, Some, None, List, [], ◌++◌, codes}
use Rattle.std.specs.List.{flat_map}
use Rattle.reo_trees.specs.declared.programs_two.ConnectorTwo.{ConnectorTwo}
use Rattle.reo_trees.specs.declared.programs_two.DeclarationTwo.{DeclarationTwo}
use Rattle.reo_trees.specs.declared.programs_two.DeclarationTwo.TheVariants as declarations
use Rattle.reo_trees.specs.declared.programs_two.ProgramTwo.{ProgramTwo}
use Rattle.reo_syntax.specs.Spread.{spread}
use Rattle.reo_syntax.specs.TypeText.{type_text}
use Rattle.reo_syntax.specs.Canonical.{parameter_text}
use Rattle.reo_syntax.specs.two.ItemText.{lines_text}

-- The name of a connector's number.
abbrev pub numbered_text : Option (List ℕ) → List ℕ
numbered_text None = []
numbered_text (Some name) = codes "<" ++ (name ++ codes ">")

-- A connector's first line up to its `{`.
abbrev pub header_text : ConnectorTwo → List ℕ
header_text c = codes "connector " ++ (c.name ++ ((numbered_text c.number ++ codes "(") ++ (spread parameter_text c.parameters ++ codes ") ")))

abbrev pub connector_text : ConnectorTwo → List ℕ
connector_text c = header_text c ++ (codes "{\n" ++ (lines_text (codes "  ") c.items ++ codes "}\n"))

abbrev pub declaration_text : DeclarationTwo → List ℕ
declaration_text (declarations.Named line name term) = codes "type " ++ ((name ++ codes " = ") ++ (type_text term ++ codes ";\n"))
declaration_text (declarations.Made connector) = connector_text connector

-- The line of the version, and the declarations one after another.
abbrev pub canonical_text_two : ProgramTwo → List ℕ
canonical_text_two p = codes "reo 2\n" ++ flat_map declaration_text p.declarations
