-- What a circuit text of either version is answered.
use Rattle.std.specs.Prelude.{◌≡◌, ℕ, Bool, true, false, List, Result, Ok, Err, codes}
use Rattle.reo_grammar.specs.Tokens.{Lexeme}
use Rattle.reo_grammar.specs.Tokens.Class.{named}
use Rattle.reo_grammar.specs.Grammar.{starts}
use Rattle.reo_lexer.specs.declared.token.Token.{Token}
use Rattle.reo_lexer.specs.Lexing.{IsTokens, lexemes_of}
use Rattle.reo_lexer.specs.Faults.{IsFault}
use Rattle.reo_trees.specs.declared.programs_two.AnyProgram.{AnyProgram}
use Rattle.reo_trees.specs.ProgramsTwo.{program_two}
use Rattle.reo_trees.specs.Rules.{circuit_rules}
use Rattle.reo_trees.specs.SaysTwo.{SaysAny, IsDeepTwo}
use Rattle.reo_terms.specs.Refused.{IsRefusedAt, IsDeepAt}
use Rattle.reo_parser.specs.declared.fault.ParseFault.{ParseFault}
use Rattle.reo_parser.specs.declared.fault.ParseFault.TheVariants as faults
use Rattle.reo_parser.specs.Parsed.{IsSyntax, IsTooDeep}

-- The tokens are those of a text of version 2: the first is the name `reo`.
abbrev pub is_second : List Lexeme → Bool
is_second ts = starts (named (codes "reo")) ts

-- The line of a refusal, by the grammar of the text's version.
abbrev pub IsSyntaxBy : Bool → List Lexeme → ℕ → Type 0
IsSyntaxBy true ts line = IsRefusedAt circuit_rules program_two IsDeepTwo ts line
IsSyntaxBy false ts line = IsSyntax ts line

-- The line of the first token that is too deep in a text of this version.
abbrev pub IsTooDeepBy : Bool → List Lexeme → ℕ → Type 0
IsTooDeepBy true ts line = IsDeepAt circuit_rules program_two IsDeepTwo ts line
IsTooDeepBy false ts line = IsTooDeep ts line

-- This is the answer to the text.
abbrev pub AnswersAny : List ℕ → Result AnyProgram ParseFault → Type 0
AnswersAny text (Ok p) = SaysAny text p
AnswersAny text (Err (faults.Lex f)) = IsFault text f
AnswersAny text (Err (faults.Syntax line)) = (ts : List Token) × IsTokens text ts × IsSyntaxBy (is_second (lexemes_of text ts)) (lexemes_of text ts) line
AnswersAny text (Err (faults.TooDeep line)) = (ts : List Token) × IsTokens text ts × IsTooDeepBy (is_second (lexemes_of text ts)) (lexemes_of text ts) line
AnswersAny text (Err faults.NoMemory) = ⊥

-- It is answered so, or out of memory.
abbrev pub IsParsedAny : List ℕ → Result AnyProgram ParseFault → Type 0
IsParsedAny text (Err faults.NoMemory) = Unit {0}
IsParsedAny text r = AnswersAny text r

-- What was answered is this answer, or out of memory.
abbrev pub IsThisAny : Result AnyProgram ParseFault → Result AnyProgram ParseFault → Type 0
IsThisAny answer (Err faults.NoMemory) = Unit {0}
IsThisAny answer r = r ≡ answer

-- Every text has an answer: a program of one of the versions, or a refusal.
abbrev pub EachTextOfAnyIsAnswered : Type 0
EachTextOfAnyIsAnswered = (text : List ℕ) → (answer : Result AnyProgram ParseFault) × AnswersAny text answer
