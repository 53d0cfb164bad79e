-- Every text has an answer.
use Rattle.std.proofs.Common.{◌≡◌, ℕ, Bool, true, false, List, Result, Ok, Err, ◌⊎◌, inl, inr, refl, sym, subst}
use Rattle.reo_grammar.specs.Tokens.{Lexeme}
use Rattle.reo_grammar.specs.Levels.{IsAbove}
use Rattle.reo_lexer.specs.declared.token.Token.{Token}
use Rattle.reo_lexer.specs.declared.token.LexFault.{LexFault}
use Rattle.reo_lexer.specs.Lexing.{IsTokens, lexemes_of}
use Rattle.reo_lexer.specs.Faults.{IsFault}
use Rattle.reo_lexer.proofs.Exists.{tokens_or_fault}
use Rattle.reo_lexer.proofs.Spans.{tokens-real}
use Rattle.reo_trees.specs.declared.programs_two.AnyProgram.{AnyProgram}
use Rattle.reo_trees.specs.declared.programs_two.AnyProgram.TheVariants.{One, Two}
use Rattle.reo_trees.specs.Programs.{program_form}
use Rattle.reo_trees.specs.ProgramsTwo.{program_two}
use Rattle.reo_trees.specs.Rules.{circuit_rules}
use Rattle.reo_trees.specs.Table.{circuit_table}
use Rattle.reo_trees.specs.Says.{most_levels}
use Rattle.reo_trees.specs.SaysTwo.{IsDeepTwo, IsLooped, most_loops}
use Rattle.reo_terms.proofs.Decided.{Decided, above-decided, either-decided, Answered, answered}
use Rattle.reo_parser.specs.declared.fault.ParseFault.{ParseFault}
use Rattle.reo_parser.specs.declared.fault.ParseFault.TheVariants as faults
use Rattle.reo_parser.specs.two.ParsedAny.{is_second, IsSyntaxBy, IsTooDeepBy, AnswersAny}
use Rattle.reo_parser.proofs.two.Loops.{looped-decided}

abbrev HasAnswer : List ℕ → Type 0
HasAnswer text = (answer : Result AnyProgram ParseFault) × AnswersAny text answer

deep-decided : (ts : List Lexeme) → Decided (IsDeepTwo ts)
deep-decided ts = either-decided {P = IsAbove most_levels ts} {Q = IsLooped most_loops ts} (above-decided most_levels ts) (looped-decided most_loops ts)

module _ (text : List ℕ) (ts : List Token) (are : IsTokens text ts) where
  of-first : is_second (lexemes_of text ts) ≡ false → Answered circuit_rules program_form (IsAbove most_levels) (lexemes_of text ts) → HasAnswer text
  of-first e (inl (p, (says, none))) = (Ok (One p), (ts, are, says, none))
  of-first e (inr (inl (line, refused))) = (Err (faults.Syntax line), (ts, are, subst (λ b. IsSyntaxBy b (lexemes_of text ts) line) (sym e) refused))
  of-first e (inr (inr (line, deep))) = (Err (faults.TooDeep line), (ts, are, subst (λ b. IsTooDeepBy b (lexemes_of text ts) line) (sym e) deep))

  of-second : is_second (lexemes_of text ts) ≡ true → Answered circuit_rules program_two IsDeepTwo (lexemes_of text ts) → HasAnswer text
  of-second e (inl (p, (says, none))) = (Ok (Two p), (ts, are, says, none))
  of-second e (inr (inl (line, refused))) = (Err (faults.Syntax line), (ts, are, subst (λ b. IsSyntaxBy b (lexemes_of text ts) line) (sym e) refused))
  of-second e (inr (inr (line, deep))) = (Err (faults.TooDeep line), (ts, are, subst (λ b. IsTooDeepBy b (lexemes_of text ts) line) (sym e) deep))

  by-version : (second : Bool) → is_second (lexemes_of text ts) ≡ second → HasAnswer text
  by-version false e = of-first e (answered circuit_rules program_form (IsAbove most_levels) circuit_table refl refl (above-decided most_levels) (lexemes_of text ts) (tokens-real text ts are))
  by-version true e = of-second e (answered circuit_rules program_two IsDeepTwo circuit_table refl refl deep-decided (lexemes_of text ts) (tokens-real text ts are))

by-tokens : (text : List ℕ) → ((ts : List Token) × IsTokens text ts) ⊎ ((f : LexFault) × IsFault text f) → HasAnswer text
by-tokens text (inl (ts, are)) = by-version text ts are (is_second (lexemes_of text ts)) refl
by-tokens text (inr (f, is)) = (Err (faults.Lex f), is)

pub text-answered : (text : List ℕ) → HasAnswer text
text-answered text = by-tokens text (tokens_or_fault text)
