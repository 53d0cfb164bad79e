-- Free names have no `@`, so what a text says is spelled.
use Rattle.std.proofs.Common.{arith, ◌≡◌, ℕ, List, [], ◌∷◌, inl, inr}
use Rattle.reo_values.specs.Names.{IsName, IsNameStart, IsNameByte}
use Rattle.reo_trees.specs.declared.items.ItemForm.{ItemForm}
use Rattle.reo_trees.specs.declared.items.ItemForm.TheVariants as forms
use Rattle.reo_trees.specs.declared.programs.Connector.{Connector}
use Rattle.reo_trees.specs.declared.programs.Declaration.{Declaration}
use Rattle.reo_trees.specs.declared.programs.Declaration.TheVariants as declarations
use Rattle.reo_trees.specs.declared.programs.Program.{Program}
use Rattle.reo_syntax_laws.specs.trees_laws.Spelled.{IsFreeName, IsItemName, IsFormBy, IsConnectorBy, IsDeclarationBy, IsWritten, IsSpelledForm, IsSpelledConnector, IsSpelledDeclaration, IsSpelled}
use Rattle.reo_syntax_laws.proofs.trees_laws.Lists.{all-cons}

start_plain : (b : ℕ) → IsNameStart b → b ≡ 64 → ⊥
start_plain b (inl upper) is = let low = upper.0 in omega arith
start_plain b (inr (inl line)) is = omega arith
start_plain b (inr (inr lower)) is = let low = lower.0 in omega arith

byte_plain : (b : ℕ) → IsNameByte b → b ≡ 64 → ⊥
byte_plain b (inl digit) is = let high = digit.1 in omega arith
byte_plain b (inr start) is = start_plain b start is

pub name_plain : (name : List ℕ) → IsName name → IsItemName name
name_plain [] is = absurd is
name_plain (b ∷ bs) is = all-cons (λ c. c ≡ 64 → ⊥) b bs (start_plain b is.0) (λ k d below. byte_plain _ (is.1 k d below))

form_loose : (f : ItemForm) → IsFormBy IsFreeName f → IsSpelledForm f
form_loose (forms.Node name term) all = (name_plain name all.0.0, all.1)
form_loose (forms.Joined channel first second) all = (all.0, name_plain first all.1.0, name_plain second all.2.0)
form_loose (forms.Used name arguments) all = (name_plain name all.0.0, λ k d below. name_plain _ (all.1 k d below).0)

connector_loose : (c : Connector) → IsConnectorBy IsFreeName c → IsSpelledConnector c
connector_loose c all = record { name = name_plain c.name all.name.0; parameters = all.parameters; items = λ k d below. form_loose _ (all.items k d below) }

declaration_loose : (d : Declaration) → IsDeclarationBy IsFreeName d → IsSpelledDeclaration d
declaration_loose (declarations.Named line name term) all = all
declaration_loose (declarations.Made c) all = connector_loose c all

pub program_loose : (p : Program) → IsWritten p → IsSpelled p
program_loose p all k d below = declaration_loose _ (all k d below)
