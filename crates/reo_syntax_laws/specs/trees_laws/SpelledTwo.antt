-- Programs of the second version whose names, numbers and texts are such as a text can have.
use Rattle.std.specs.Prelude.{ℕ, zero, suc, ◌≡◌, ◌≤◌, false, Option, Some, None, List, [], ◌∷◌, length}
use Rattle.std.specs.List.{All}
use Rattle.reo_trees.specs.declared.indexes.Index.{Index}
use Rattle.reo_trees.specs.declared.indexes.SignedUnit.{SignedUnit}
use Rattle.reo_trees.specs.declared.indexes.IndexUnit.{IndexUnit}
use Rattle.reo_trees.specs.declared.indexes.IndexUnit.TheVariants as units
use Rattle.reo_trees.specs.declared.indexes.Ref.{Ref}
use Rattle.reo_trees.specs.declared.items_two.ItemTwo.{ItemTwo}
use Rattle.reo_trees.specs.declared.items_two.FormTwo as form
use Rattle.reo_trees.specs.declared.items_two.FormTwo.{FormTwo}
use Rattle.reo_trees.specs.declared.programs_two.ConnectorTwo.{ConnectorTwo}
use Rattle.reo_trees.specs.declared.programs_two.DeclarationTwo.{DeclarationTwo}
use Rattle.reo_trees.specs.declared.programs_two.DeclarationTwo.TheVariants as declarations
use Rattle.reo_trees.specs.declared.programs_two.ProgramTwo.{ProgramTwo}
use Rattle.reo_syntax_laws.specs.trees_laws.Spelled.{IsFreeName, IsSpelledShape, IsSpelledChannel, IsSpelledParameter}

-- A number of at most 10^9, or a name.
abbrev pub IsSpelledUnit : IndexUnit → Type 0
IsSpelledUnit (units.Number n) = n ≤ 1000000000
IsSpelledUnit (units.Name name) = IsFreeName name

-- One to eight units, the first without a minus.
abbrev pub AreSpelledUnits : List SignedUnit → Type 0
AreSpelledUnits [] = ⊥
AreSpelledUnits (u ∷ us) = (u.minus ≡ false) × (length us ≤ 7) × All (λ (v : SignedUnit). IsSpelledUnit v.unit) (u ∷ us)

abbrev pub IsSpelledIndex : Index → Type 0
IsSpelledIndex i = AreSpelledUnits i.units

abbrev pub IsSpelledPlace : Option Index → Type 0
IsSpelledPlace None = Unit {0}
IsSpelledPlace (Some i) = IsSpelledIndex i

abbrev pub IsSpelledRef : Ref → Type 0
IsSpelledRef r = IsFreeName r.name × IsSpelledPlace r.place

abbrev mutual
  -- An item, with so many loops in it at most, one in another. No node stands in a loop.
  pub IsSpelledLooped : ℕ → FormTwo → Type 0
  IsSpelledLooped loops (form.Node name size term) = ⊥
  IsSpelledLooped loops (form.Joined channel first second) = IsSpelledChannel channel × IsSpelledRef first × IsSpelledRef second
  IsSpelledLooped loops (form.Used name number arguments) = IsFreeName name × IsSpelledPlace number × All IsSpelledRef arguments
  IsSpelledLooped zero (form.Loop' variable low high m row) = ⊥
  IsSpelledLooped (suc loops) (form.Loop' variable low high m row) = IsFreeName variable × IsSpelledIndex low × IsSpelledIndex high × AreSpelledLooped loops row

  pub AreSpelledLooped : ℕ → {m : _} → form.Row_of-ItemTwo m → Type 0
  AreSpelledLooped loops form.end_of-ItemTwo = Unit {0}
  AreSpelledLooped loops (form.more_of-ItemTwo line f rest) = IsSpelledLooped loops f × AreSpelledLooped loops rest

abbrev pub IsSpelledFormTwo : FormTwo → Type 0
IsSpelledFormTwo (form.Node name size term) = IsFreeName name × IsSpelledPlace size × IsSpelledShape term.shape
IsSpelledFormTwo f = IsSpelledLooped 8 f

abbrev pub IsSpelledItemTwo : ItemTwo → Type 0
IsSpelledItemTwo i = IsSpelledFormTwo i.form

abbrev pub IsSpelledNumber : Option (List ℕ) → Type 0
IsSpelledNumber None = Unit {0}
IsSpelledNumber (Some name) = IsFreeName name

-- A connector.
pub record IsSpelledConnectorTwo (c : ConnectorTwo) : Type 0 where
  pub name : IsFreeName c.name
  pub number : IsSpelledNumber c.number
  pub parameters : All IsSpelledParameter c.parameters
  pub items : All IsSpelledItemTwo c.items

abbrev pub IsSpelledDeclarationTwo : DeclarationTwo → Type 0
IsSpelledDeclarationTwo (declarations.Named line name term) = IsFreeName name × IsSpelledShape term.shape
IsSpelledDeclarationTwo (declarations.Made c) = IsSpelledConnectorTwo c

-- A whole program.
abbrev pub IsSpelledTwo : ProgramTwo → Type 0
IsSpelledTwo p = All IsSpelledDeclarationTwo p.declarations
