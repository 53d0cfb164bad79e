-- Items of version 2 whose names, numbers and texts are such as a text can have, whatever the number of loops in one another.
use Rattle.reo_trees.specs.declared.items_two.ItemTwo.{ItemTwo}
use Rattle.reo_trees.specs.declared.items_two.FormTwo as form
use Rattle.reo_trees.specs.declared.items_two.FormTwo.{FormTwo}
use Rattle.reo_trees.specs.declared.programs_two.ConnectorTwo.{ConnectorTwo}
use Rattle.reo_trees.specs.declared.programs_two.DeclarationTwo.{DeclarationTwo}
use Rattle.reo_trees.specs.declared.programs_two.DeclarationTwo.TheVariants as declarations
use Rattle.std.specs.List.{All}
use Rattle.reo_syntax_laws.specs.trees_laws.Spelled.{IsFreeName, IsSpelledShape, IsSpelledChannel, IsSpelledParameter}
use Rattle.reo_syntax_laws.specs.trees_laws.SpelledTwo.{IsSpelledIndex, IsSpelledPlace, IsSpelledRef, IsSpelledNumber}

abbrev mutual
  -- An item that may stand in a loop.
  pub IsLooped : FormTwo → Type 0
  IsLooped (form.Node name size term) = ⊥
  IsLooped (form.Joined channel first second) = IsSpelledChannel channel × IsSpelledRef first × IsSpelledRef second
  IsLooped (form.Used name number arguments) = IsFreeName name × IsSpelledPlace number × All IsSpelledRef arguments
  IsLooped (form.Loop' variable low high m row) = IsFreeName variable × IsSpelledIndex low × IsSpelledIndex high × AreLooped row

  pub AreLooped : {m : _} → form.Row_of-ItemTwo m → Type 0
  AreLooped form.end_of-ItemTwo = Unit {0}
  AreLooped (form.more_of-ItemTwo line f rest) = IsLooped f × AreLooped rest

abbrev pub IsLoopedItem : ItemTwo → Type 0
IsLoopedItem i = IsLooped i.form

-- One that stands in no loop: a node too.
abbrev pub IsOuter : FormTwo → Type 0
IsOuter (form.Node name size term) = IsFreeName name × IsSpelledPlace size × IsSpelledShape term.shape
IsOuter f = IsLooped f

abbrev pub IsOuterItem : ItemTwo → Type 0
IsOuterItem i = IsOuter i.form

-- A connector, and a declaration.
pub record IsLoose (c : ConnectorTwo) : Type 0 where
  pub name : IsFreeName c.name
  pub number : IsSpelledNumber c.number
  pub parameters : All IsSpelledParameter c.parameters
  pub items : All IsOuterItem c.items

abbrev pub IsLooseDeclaration : DeclarationTwo → Type 0
IsLooseDeclaration (declarations.Named line name term) = IsFreeName name × IsSpelledShape term.shape
IsLooseDeclaration (declarations.Made c) = IsLoose c
