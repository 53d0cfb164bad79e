-- What the readers of forms give.
use Rattle.std.specs.Prelude.{ℕ, List}
use Rattle.reo_values.specs.declared.operator.Binary.{Binary}
use Rattle.reo_grammar.specs.Tokens.{Lexeme}
use Rattle.reo_grammar.specs.Grammar.{Outcome, read, reads}
use Rattle.reo_grammar.specs.Grammar.Grammar.{both}
use Rattle.reo_trees.specs.declared.terms.Term.{Term}
use Rattle.reo_trees.specs.Forms.{FormOf, word, name_form, ◌◂◌}
use Rattle.reo_trees.specs.Operators.{Further}
use Rattle.reo_trees.specs.Rules.{circuit_rules}

-- Reading a form without rules.
abbrev pub read_plain : {A : Type 0} → FormOf A → List Lexeme → Outcome A
read_plain g ts = read (reads circuit_rules 0) g ts

-- Two names, and a word or a sign behind them.
abbrev pub two_names : List ℕ → FormOf (List ℕ × List ℕ)
two_names mark = both (λ x y. (x, y)) name_form (name_form ◂ word mark)

-- An operator and its right operand, wherever that begins.
abbrev pub operand : Binary → Term → Further
operand o x = record { operator = o; right = record { start = 0; term = x } }
