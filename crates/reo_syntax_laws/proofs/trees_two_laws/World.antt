-- What is claimed of the trees of rules in texts of version 2.
use Rattle.std.proofs.Common.{ℕ, List}
use Rattle.reo_grammar.specs.Tokens.{Lexeme, AreReal}
use Rattle.reo_grammar.specs.Grammar.{Within}
use Rattle.reo_grammar.specs.Grammar.Grammar.{rule}
use Rattle.reo_trees.specs.Forms.{Rule, tree_of, FormOf}
use Rattle.reo_trees.specs.Forms.Rule.{type_rule, literal_rule, term_rule, unary_rule, looped_rule}
use Rattle.reo_trees.specs.Rules.{circuit_rules}
use Rattle.reo_syntax_laws.proofs.Seen.{World, see-rule}
use Rattle.reo_syntax_laws.specs.trees_laws.Spelled.{IsSpelledShape, IsSpelledLiteral, IsSpelledTerm}
use Rattle.reo_syntax_laws.proofs.trees_laws.Has.{Has, world}
use Rattle.reo_syntax_laws.proofs.trees_laws.Programs.{each_claim}
use Rattle.reo_syntax_laws.specs.trees_two_laws.Looped.{IsLoopedItem}

abbrev pub Claim : (r : Rule) → tree_of r → Type 0
Claim type_rule x = IsSpelledShape x.shape
Claim literal_rule x = IsSpelledLiteral x
Claim term_rule x = IsSpelledTerm x.form
Claim unary_rule x = IsSpelledTerm x.term.form
Claim looped_rule x = IsLoopedItem x

-- It holds with rules nested at most so deep.
abbrev pub Each : ℕ → Type 0
Each k = (r : Rule) (ts : List Lexeme) (x : tree_of r) → AreReal ts → Within circuit_rules k r ts x → Claim r x

abbrev pub world_two : (k : ℕ) → Each k → World
world_two k each = record { Derived = Within circuit_rules k; Holds = λ r ts x. Claim r x; each = each }

module _ (k : ℕ) (each : Each k) where
  -- What is known of texts of version 1.
  pub known : {A : Type 0} {g : FormOf A} {S : A → Type 0} → Has (world k (each_claim k)) g S → Has (world_two k each) g S
  known s = record { at = λ ts x q d. s.at ts x q d }

  pub has-looped : Has (world_two k each) (rule looped_rule) IsLoopedItem
  has-looped = see-rule {r = looped_rule} (λ a x h. h)
