-- Texts by their version, and answers of the reader of version 1.
use Rattle.std.specs.Prelude.{◌≡◌, ℕ, true, false, List, Result, Ok, Err}
use Rattle.reo_grammar.specs.Grammar.{line_of}
use Rattle.reo_lexer.specs.declared.token.Token.{Token}
use Rattle.reo_lexer.specs.Lexing.{IsTokens, lexemes_of}
use Rattle.reo_trees.specs.declared.programs.Program.{Program}
use Rattle.reo_trees.specs.declared.programs_two.AnyProgram.{AnyProgram}
use Rattle.reo_trees.specs.declared.programs_two.AnyProgram.TheVariants.{One}
use Rattle.reo_parser.specs.declared.fault.ParseFault.{ParseFault}
use Rattle.reo_parser.specs.declared.fault.ParseFault.TheVariants as faults
use Rattle.reo_parser.specs.Parsed.{Answers}
use Rattle.reo_parser.specs.two.ParsedAny.{is_second}

-- Whatever tokens the text has, they are not those of a text of version 2.
abbrev pub IsFirst : List ℕ → Type 0
IsFirst text = (ts : List Token) → IsTokens text ts → is_second (lexemes_of text ts) ≡ false

-- An answer of the reader of version 1 as one of the reader of both.
abbrev pub as_any : Result Program ParseFault → Result AnyProgram ParseFault
as_any (Ok p) = Ok (One p)
as_any (Err f) = Err f

-- Tokens that begin with the name `reo` are refused on its line, as a text of version 1.
abbrev pub SecondTextsAreRefused : Type 0
SecondTextsAreRefused = (text : List ℕ) (ts : List Token) → IsTokens text ts → is_second (lexemes_of text ts) ≡ true → Answers text (Err (faults.Syntax (line_of (lexemes_of text ts))))
