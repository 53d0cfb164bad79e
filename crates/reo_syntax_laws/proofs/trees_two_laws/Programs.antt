-- Programs that texts of version 2 say.
use Rattle.std.proofs.Common.{◌≡◌, ℕ, zero, suc, true, Option, List, inr}
use Rattle.std.specs.List.{All}
use Rattle.reo_grammar.specs.Levels.{Nowhere}
use Rattle.reo_lexer.specs.Lexing.{lexemes_of}
use Rattle.reo_lexer.proofs.Spans.{tokens-real}
use Rattle.reo_trees.specs.declared.programs_two.ConnectorTwo.{ConnectorTwo}
use Rattle.reo_trees.specs.declared.programs_two.DeclarationTwo.{DeclarationTwo}
use Rattle.reo_trees.specs.declared.programs_two.ProgramTwo.{ProgramTwo}
use Rattle.reo_trees.specs.Forms.{Rule}
use Rattle.reo_trees.specs.Forms.Rule.{type_rule, literal_rule, term_rule, unary_rule, looped_rule}
use Rattle.reo_trees.specs.Rules.{circuit_rules}
use Rattle.reo_trees.specs.ProgramsTwo.{numbered_form, connector_two, named_two, declaration_two, declarations_two, program_two}
use Rattle.reo_trees.specs.SaysTwo.{SaysTwo, IsLooped, most_loops}
use Rattle.reo_syntax_laws.proofs.Seen.{World, see-then}
use Rattle.reo_trees.specs.loops.Laws.{LoopsByTrees}
use Rattle.reo_trees.specs.loops.Few.{few_in_program}
use Rattle.reo_syntax_laws.specs.trees_laws.Spelled.{IsFreeName, IsSpelledParameter}
use Rattle.reo_syntax_laws.specs.trees_laws.SpelledTwo.{IsSpelledNumber, IsSpelledTwo}
use Rattle.reo_syntax_laws.proofs.trees_laws.Lists.{all-none, all-more}
use Rattle.reo_syntax_laws.proofs.trees_laws.Has.{Has, has-both, has-left, has-right, has-made, has-lined, has-either, has-nothing, has-chain, has-name}
use Rattle.reo_syntax_laws.proofs.trees_laws.Programs.{IsFreeType, each_claim, rule-has, has-parameters, type-left}
use Rattle.reo_syntax_laws.specs.trees_two_laws.Looped.{IsOuterItem, IsLoose, IsLooseDeclaration}
use Rattle.reo_syntax_laws.proofs.trees_two_laws.Counted.{declarations_counted}
use Rattle.reo_syntax_laws.proofs.trees_two_laws.World.{Claim, Each, world_two, known}
use Rattle.reo_syntax_laws.proofs.trees_two_laws.Items.{has-looped_form, has-items}

-- What becomes a connector behind its line, its name and its number, and a declaration behind its line.
abbrev Lined : (ℕ → ConnectorTwo) → Type 0
Lined f = (l : ℕ) → IsLoose (f l)

abbrev Named : (List ℕ → ℕ → ConnectorTwo) → Type 0
Named f = (n : List ℕ) (l : ℕ) → IsFreeName n → IsLoose (f n l)

abbrev Numbered : (Option (List ℕ) → List ℕ → ℕ → ConnectorTwo) → Type 0
Numbered f = (o : Option (List ℕ)) (n : List ℕ) (l : ℕ) → IsSpelledNumber o → IsFreeName n → IsLoose (f o n l)

abbrev Declared : (ℕ → DeclarationTwo) → Type 0
Declared f = (l : ℕ) → IsLooseDeclaration (f l)

abbrev AreLoose : ProgramTwo → Type 0
AreLoose p = All IsLooseDeclaration p.declarations

module _ (k : ℕ) (each : Each k) where
  abbrev w : World
  w = world_two k each

  has-number : Has w numbered_form IsSpelledNumber
  has-number = has-either IsSpelledNumber (has-made IsSpelledNumber (has-right IsFreeName (has-left IsFreeName has-name))) (has-nothing IsSpelledNumber tt)

  has-connector : Has w connector_two IsLoose
  has-connector = has-lined Lined IsLoose
      (has-right Lined (has-both IsFreeName Named Lined has-name
      (has-both IsSpelledNumber Numbered Named (has-left IsSpelledNumber has-number)
      (has-both (All IsSpelledParameter) (All IsOuterItem) Numbered (has-left (All IsSpelledParameter) (known k each (has-parameters k (each_claim k))))
      (has-right (All IsOuterItem) (has-left (All IsOuterItem) (has-items k each)))
      (λ ps is p q o n l r s. record { name = s; number = r; parameters = p; items = q }))
      (λ o f p q n l r. q o n l p r)) (λ n f p q l. q n l p))) (λ l f p. p l)

  has-named : Has w named_two IsLooseDeclaration
  has-named = has-lined Declared IsLooseDeclaration
      (has-right Declared (has-both IsFreeName IsFreeType Declared (has-left IsFreeName has-name) (known k each (type-left k (each_claim k))) (λ n t p q l. (p, q)))) (λ l f p. p l)

  has-declaration : Has w declaration_two IsLooseDeclaration
  has-declaration = has-either IsLooseDeclaration has-named (has-made IsLooseDeclaration (see-then has-connector (λ ts c p. p)))

  has-declarations : Has w declarations_two (All IsLooseDeclaration)
  has-declarations = has-chain (All IsLooseDeclaration) IsLooseDeclaration (has-nothing (All IsLooseDeclaration) (all-none IsLooseDeclaration)) has-declaration
      (λ xs y all here. all-more IsLooseDeclaration xs y all here)

  has-program : Has w program_two AreLoose
  has-program = has-right AreLoose (has-made AreLoose (see-then has-declarations (λ ts ds p. p)))

  rule_has : (r : Rule) → Has w (circuit_rules r) (Claim r)
  rule_has type_rule = known k each (rule-has k (each_claim k) type_rule)
  rule_has literal_rule = known k each (rule-has k (each_claim k) literal_rule)
  rule_has term_rule = known k each (rule-has k (each_claim k) term_rule)
  rule_has unary_rule = known k each (rule-has k (each_claim k) unary_rule)
  rule_has looped_rule = has-looped_form k each

each_two : (k : ℕ) → Each k
each_two zero r ts x q d = absurd d
each_two (suc k) r ts x q d = (rule_has k (each_two k) r).at ts x q d

-- With few loops in one another.
pub spelled : LoopsByTrees → (text : List ℕ) (p : ProgramTwo) → SaysTwo text p → IsSpelledTwo p
spelled by_trees text p (ts, tokens, (k, derived), levels) =
    let words = lexemes_of text ts in
    let loops : Nowhere (IsLooped most_loops) words = λ a u t e deep. levels a u t e (inr deep) in
    let few : few_in_program most_loops p ≡ true = (by_trees words p (k, derived)).0 loops in
    declarations_counted p.declarations ((has-program k (each_two k)).at words p (tokens-real text ts tokens) derived) few
