-- Whole circuit texts of version 2.
use Rattle.std.specs.Prelude.{ℕ, Option, Some, None, List, [], codes}
use Rattle.reo_grammar.specs.Tokens.Class.{fixed}
use Rattle.reo_grammar.specs.Grammar.Grammar.{nothing, both, made, either, chain, lined, rule}
use Rattle.reo_trees.specs.declared.programs_two.ProgramTwo.{ProgramTwo}
use Rattle.reo_trees.specs.declared.programs_two.DeclarationTwo.{DeclarationTwo}
use Rattle.reo_trees.specs.declared.programs_two.DeclarationTwo.TheVariants as declarations
use Rattle.reo_trees.specs.declared.programs_two.ConnectorTwo.{ConnectorTwo}
use Rattle.reo_trees.specs.Forms.{FormOf, named_word, word, name_form, number_form, ◌▸◌, ◌◂◌, listed}
use Rattle.reo_trees.specs.Forms.Rule.{type_rule}
use Rattle.reo_trees.specs.Programs.{parameters_form, declaration_words}
use Rattle.reo_trees.specs.ItemsTwo.{items_two}

-- [ "<" NAME ">" ]
abbrev pub numbered_form : FormOf (Option (List ℕ))
numbered_form = either (fixed (codes "<")) (made (λ n. Some n) (word (codes "<") ▸ name_form ◂ word (codes ">"))) (nothing None)

-- "connector" NAME number "(" parameters ")" "{" items "}"
abbrev pub connector_two : FormOf ConnectorTwo
connector_two =
    lined (λ l (f : ℕ → ConnectorTwo). f l)
    (word (codes "connector") ▸ both (λ n (f : List ℕ → ℕ → ConnectorTwo). f n) name_form
    (both (λ k (f : Option (List ℕ) → List ℕ → ℕ → ConnectorTwo). f k) (numbered_form ◂ word (codes "("))
    (both (λ ps is (k : Option (List ℕ)) (n : List ℕ) (l : ℕ). record { line = l; name = n; number = k; parameters = ps; items = is }) (parameters_form ◂ word (codes ")"))
    (word (codes "{") ▸ items_two ◂ word (codes "}")))))

-- "type" NAME "=" type ";"
abbrev pub named_two : FormOf DeclarationTwo
named_two =
    lined (λ l (f : ℕ → DeclarationTwo). f l)
    (word (codes "type") ▸ both (λ n t (l : ℕ). declarations.Named l n t) (name_form ◂ word (codes "=")) (rule type_rule ◂ word (codes ";")))

abbrev pub declaration_two : FormOf DeclarationTwo
declaration_two = either (fixed (codes "type")) named_two (made (λ c. declarations.Made c) connector_two)

-- { declaration }
abbrev pub declarations_two : FormOf (List DeclarationTwo)
declarations_two = chain listed declaration_words (nothing []) declaration_two

-- "reo" "2"
abbrev pub version_two : FormOf (Unit {0})
version_two = named_word (codes "reo") ▸ made (λ n. tt) (number_form 2 2)

abbrev pub program_two : FormOf ProgramTwo
program_two = version_two ▸ made (λ ds. record { declarations = ds }) declarations_two
