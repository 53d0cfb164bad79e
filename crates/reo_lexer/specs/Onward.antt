-- Texts that go on.
use Rattle.std.specs.Prelude.{ℕ, List, ◌++◌}
use Rattle.reo_grammar.specs.Tokens.{Lexeme, Alike}
use Rattle.reo_grammar.specs.Grammar.{Grammar, Says}
use Rattle.reo_lexer.specs.declared.token.Token.{Token}
use Rattle.reo_lexer.specs.Lexing.{IsTokens, lexemes_of}

-- A text with these tokens goes on to one that has those behind them, lines aside.
abbrev pub GoesOn : List ℕ → List Token → List Lexeme → Type 0
GoesOn text ts c = (more : List ℕ) × (us : List Token) × IsTokens (text ++ more) (ts ++ us) × Alike c (lexemes_of (text ++ more) us)

-- The text goes on to one of which the grammar says something.
abbrev pub IsBegun : {Ref : Type 0} {tree : Ref → Type 0} {A : Type 0} → ((r : Ref) → Grammar Ref tree (tree r)) → Grammar Ref tree A → List ℕ → Type 0
IsBegun {A = A} rules g text = (more : List ℕ) × (ts : List Token) × (x : A) × IsTokens (text ++ more) ts × Says rules g (lexemes_of (text ++ more) ts) x
