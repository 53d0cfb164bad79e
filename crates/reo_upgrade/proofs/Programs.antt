-- Programs of version 1 are ones of version 2, behind the tokens of the version.
use Rattle.std.proofs.Common.{◌≡◌, ℕ, Option, None, List, [], ◌∷◌, ◌++◌, map, inr, refl, ◌∙◌, ap, codes}
use Rattle.std.proofs.lemmas.List.{map-append}
use Rattle.reo_grammar.specs.Tokens.{Lexeme}
use Rattle.reo_grammar.specs.Grammar.{Says}
use Rattle.reo_grammar.specs.Grammar.Grammar.{both, made}
use Rattle.reo_trees.specs.declared.items.Item.{Item}
use Rattle.reo_trees.specs.declared.items_two.ItemTwo.{ItemTwo}
use Rattle.reo_trees.specs.declared.programs.Parameter.{Parameter}
use Rattle.reo_trees.specs.declared.programs.Connector.{Connector}
use Rattle.reo_trees.specs.declared.programs.Declaration.{Declaration}
use Rattle.reo_trees.specs.declared.programs.Program.{Program}
use Rattle.reo_trees.specs.declared.programs_two.ConnectorTwo.{ConnectorTwo}
use Rattle.reo_trees.specs.declared.programs_two.DeclarationTwo.{DeclarationTwo}
use Rattle.reo_trees.specs.declared.programs_two.DeclarationTwo.TheVariants as two
use Rattle.reo_trees.specs.declared.programs_two.ProgramTwo.{ProgramTwo}
use Rattle.reo_trees.specs.Forms.{FormOf, word, ◌▸◌, ◌◂◌}
use Rattle.reo_trees.specs.Items.{items_form}
use Rattle.reo_trees.specs.ItemsTwo.{items_two}
use Rattle.reo_trees.specs.Programs.{parameters_form, connector_form, named_form, declaration_form, declarations_form, program_form}
use Rattle.reo_trees.specs.ProgramsTwo.{numbered_form, connector_two, named_two, declaration_two, declarations_two}
use Rattle.reo_trees.specs.Rules.{circuit_rules}
use Rattle.reo_expand.specs.base.Lifted.{lifted_item, lifted_connector, lifted_declaration, lifted}
use Rattle.reo_upgrade.proofs.Turned.{Turned, turned-same, turned-nothing, turned-both, turned-left, turned-right, turned-made, turned-lined, turned-either, turned-chain, turned-behind}
use Rattle.reo_upgrade.proofs.Items.{turned-items}

no-numbered : Says circuit_rules numbered_form [] None
no-numbered = (0, inr (refl, refl))

-- Parameters and items, and what a connector is behind its name.
abbrev Bodied : (List ℕ → ℕ → Connector) → (Option (List ℕ) → List ℕ → ℕ → ConnectorTwo) → Type 0
Bodied f g = (n : List ℕ) (l : ℕ) → lifted_connector (f n l) ≡ g None n l

abbrev OfLine : (ℕ → Connector) → (ℕ → ConnectorTwo) → Type 0
OfLine f g = (l : ℕ) → lifted_connector (f l) ≡ g l

abbrev IsConnector : Connector → ConnectorTwo → Type 0
IsConnector x y = lifted_connector x ≡ y

abbrev IsDeclaration : Declaration → DeclarationTwo → Type 0
IsDeclaration x y = lifted_declaration x ≡ y

abbrev OfDeclared : (ℕ → Declaration) → (ℕ → DeclarationTwo) → Type 0
OfDeclared f g = (l : ℕ) → lifted_declaration (f l) ≡ g l

abbrev AreDeclarations : List Declaration → List DeclarationTwo → Type 0
AreDeclarations xs ys = map lifted_declaration xs ≡ ys

abbrev AreItems : List Item → List ItemTwo → Type 0
AreItems xs ys = map lifted_item xs ≡ ys

-- What stands behind a connector's name and its `(`.
abbrev rest_one : FormOf (List ℕ → ℕ → Connector)
rest_one =
    both (λ ps is (n : List ℕ) (l : ℕ). record { line = l; name = n; parameters = ps; items = is }) (parameters_form ◂ word (codes ")"))
    (word (codes "{") ▸ items_form ◂ word (codes "}"))

abbrev rest_two : FormOf (Option (List ℕ) → List ℕ → ℕ → ConnectorTwo)
rest_two =
    both (λ ps is (k : Option (List ℕ)) (n : List ℕ) (l : ℕ). record { line = l; name = n; number = k; parameters = ps; items = is }) (parameters_form ◂ word (codes ")"))
    (word (codes "{") ▸ items_two ◂ word (codes "}"))

module _ (k : ℕ) where
  turned-rest : Turned k rest_one rest_two Bodied
  turned-rest = turned-both k Bodied (turned-same k) (turned-right k AreItems (turned-left k AreItems (turned-items k)))
      (λ ps qs is js e i n l. ap (λ (z : List Parameter). record { line = l; name = n; number = None; parameters = z; items = map lifted_item is }) e
      ∙ ap (λ (z : List ItemTwo). record { line = l; name = n; number = None; parameters = qs; items = z }) i)

  turned-connector : Turned k connector_form connector_two IsConnector
  turned-connector = turned-lined k {R = OfLine} IsConnector (turned-right k OfLine (turned-behind k OfLine no-numbered turned-rest (λ n f g e l. e n l))) (λ l f g e. e l)

  turned-named : Turned k named_form named_two IsDeclaration
  turned-named = turned-lined k {R = OfDeclared} IsDeclaration
      (turned-right k OfDeclared (turned-both k OfDeclared (turned-same k) (turned-same k) (λ n m t u e i l. ap (λ z. two.Named l z t) e ∙ ap (λ z. two.Named l m z) i))) (λ l f g e. e l)

  turned-declaration : Turned k declaration_form declaration_two IsDeclaration
  turned-declaration = turned-either k turned-named (turned-made k IsDeclaration turned-connector (λ c d e. ap two.Made e))

  turned-declarations : Turned k declarations_form declarations_two AreDeclarations
  turned-declarations = turned-chain k AreDeclarations (turned-nothing k AreDeclarations refl) turned-declaration
      (λ xs us y v e i. map-append lifted_declaration xs (y ∷ []) ∙ ap (λ l. l ++ lifted_declaration y ∷ []) e ∙ ap (λ z. us ++ z ∷ []) i)

-- The tokens of a program say the lifted one.
pub lifted-said : (ts : List Lexeme) (p : Program) → Says circuit_rules program_form ts p
    → (q : ProgramTwo) × Says circuit_rules (made (λ ds. record { declarations = ds }) declarations_two) ts q × (lifted p ≡ q)
lifted-said ts p (k, d) =
    (turned-made k (λ (p : Program) (q : ProgramTwo). lifted p ≡ q) (turned-declarations k) (λ xs ys e. ap (λ (l : List DeclarationTwo). record { declarations = l }) e)).at ts p d
