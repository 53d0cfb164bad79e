-- Every text has an answer.
use Rattle.std.proofs.Common.{ℕ, List, Result, Ok, Err, ◌⊎◌, inl, inr, refl}
use Rattle.reo_grammar.specs.Levels.{IsAbove}
use Rattle.reo_lexer.specs.declared.token.Token.{Token}
use Rattle.reo_lexer.specs.declared.token.LexFault.{LexFault}
use Rattle.reo_lexer.specs.Lexing.{IsTokens, lexemes_of}
use Rattle.reo_lexer.specs.Faults.{IsFault}
use Rattle.reo_lexer.proofs.Exists.{tokens_or_fault}
use Rattle.reo_lexer.proofs.Spans.{tokens-real}
use Rattle.reo_trees.specs.declared.programs.Program.{Program}
use Rattle.reo_trees.specs.Programs.{program_form}
use Rattle.reo_trees.specs.Rules.{circuit_rules}
use Rattle.reo_trees.specs.Table.{circuit_table}
use Rattle.reo_trees.specs.Says.{most_levels}
use Rattle.reo_terms.proofs.Decided.{above-decided, Answered, answered}
use Rattle.reo_parser.specs.declared.fault.ParseFault.{ParseFault}
use Rattle.reo_parser.specs.declared.fault.ParseFault.TheVariants as faults
use Rattle.reo_parser.specs.Parsed.{Answers}

abbrev HasAnswer : List ℕ → Type 0
HasAnswer text = (answer : Result Program ParseFault) × Answers text answer

of_tokens : (text : List ℕ) (ts : List Token) → IsTokens text ts → Answered circuit_rules program_form (IsAbove most_levels) (lexemes_of text ts) → HasAnswer text
of_tokens text ts are (inl (p, (says, none))) = (Ok p, (ts, are, says, none))
of_tokens text ts are (inr (inl (line, refused))) = (Err (faults.Syntax line), (ts, are, refused))
of_tokens text ts are (inr (inr (line, deep))) = (Err (faults.TooDeep line), (ts, are, deep))

pub by_tokens : (text : List ℕ) → ((ts : List Token) × IsTokens text ts) ⊎ ((f : LexFault) × IsFault text f) → HasAnswer text
by_tokens text (inl (ts, are)) =
    of_tokens text ts are (answered circuit_rules program_form (IsAbove most_levels) circuit_table refl refl (above-decided most_levels) (lexemes_of text ts) (tokens-real text ts are))
by_tokens text (inr (f, is)) = (Err (faults.Lex f), is)

pub text_answered : (text : List ℕ) → HasAnswer text
text_answered text = by_tokens text (tokens_or_fault text)
