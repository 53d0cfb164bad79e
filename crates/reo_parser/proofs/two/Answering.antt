-- Answers to texts, by what reading their tokens comes to.
use Rattle.std.proofs.Common.{◌≡◌, ◌∙◌, ℕ, ◌<◌, true, false, List, [], ◌∷◌, length, Err, sym, ap, subst, arith}
use Rattle.reo_lexer.specs.declared.token.Token.{Token}
use Rattle.reo_lexer.specs.declared.token.LexFault.{LexFault}
use Rattle.reo_lexer.specs.declared.token.LexFault.TheVariants as lexing
use Rattle.reo_lexer.specs.Faults.{IsLexed}
use Rattle.reo_lexer.specs.Lexing.{IsTokens, lexemes_of}
use Rattle.reo_lexer.proofs.Reading.{one-list}
use Rattle.reo_parser.specs.declared.fault.ParseFault.{ParseFault}
use Rattle.reo_parser.specs.declared.fault.ParseFault.TheVariants as faults
use Rattle.reo_parser.specs.Faults.{fault_of_lex}
use Rattle.reo_parser.specs.Parsed.{IsParsed}
use Rattle.reo_parser.specs.two.ParsedAny.{is_second, IsSyntaxBy, IsTooDeepBy, IsParsedAny}

pub lexed-fault : (text : List ℕ) (f : LexFault) → IsLexed text (Err f) → IsParsedAny text (Err (fault_of_lex f))
lexed-fault text (lexing.BadByte l) h = h
lexed-fault text (lexing.OpenText l) h = h
lexed-fault text (lexing.NumberTooLong l) h = h
lexed-fault text lexing.NoMemory h = tt

-- A text of version 2 has a token.
pub some-second : (text : List ℕ) (ts : List Token) → is_second (lexemes_of text ts) ≡ true → 0 < length ts
some-second text [] h = absurd (cc)
some-second text (t ∷ ts) h = omega arith

-- A refusal by the grammar of version 2, of a text of that version.
pub syntax-second : (ts : List _) (line : ℕ) → is_second ts ≡ true → IsSyntaxBy true ts line → IsSyntaxBy (is_second ts) ts line
syntax-second ts line e h = subst (λ b. IsSyntaxBy b ts line) (sym e) h

pub deep-second : (ts : List _) (line : ℕ) → is_second ts ≡ true → IsTooDeepBy true ts line → IsTooDeepBy (is_second ts) ts line
deep-second ts line e h = subst (λ b. IsTooDeepBy b ts line) (sym e) h

-- The answer to a text of version 1 is that of its grammar.
module _ (text : List ℕ) (ts : List Token) (are : IsTokens text ts) (first : is_second (lexemes_of text ts) ≡ false) where
  first-by : (us : List Token) → IsTokens text us → is_second (lexemes_of text us) ≡ false
  first-by us h = ap (λ l. is_second (lexemes_of text l)) (one-list text us ts h are) ∙ first

  pub fault-first : (f : ParseFault) → IsParsed text (Err f) → IsParsedAny text (Err f)
  fault-first (faults.Lex f) h = h
  fault-first (faults.Syntax line) (us, h, r) = (us, h, subst (λ b. IsSyntaxBy b (lexemes_of text us) line) (sym (first-by us h)) r)
  fault-first (faults.TooDeep line) (us, h, r) = (us, h, subst (λ b. IsTooDeepBy b (lexemes_of text us) line) (sym (first-by us h)) r)
  fault-first faults.NoMemory h = tt
