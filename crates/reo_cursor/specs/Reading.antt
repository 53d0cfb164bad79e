-- What readers give, beside what reading by a grammar comes to.
use Rattle.std.specs.Prelude.{◌≡◌, ℕ, Option, Some, None, cond, List, [], ◌∷◌, Result, Ok, Err, IsErrOf}
use Rattle.reo_grammar.specs.Tokens.{Lexeme, is_number, number_from}
use Rattle.reo_grammar.specs.Tokens.Class.{fixed, name, named, number, text}
use Rattle.reo_grammar.specs.Grammar.{Outcome, token_at, then}
use Rattle.reo_grammar.specs.Grammar.Outcome.{got, bad, out}
use Rattle.reo_trees.specs.Texts.{text_bytes}
use Rattle.reo_cursor.specs.declared.seen.Seen.{Seen}
use Rattle.reo_cursor.specs.declared.halt.Halt.{Halt}
use Rattle.reo_cursor.specs.declared.halt.Halt.TheVariants as halts

-- The lexeme of a token with its bytes.
abbrev pub lexeme_seen : Seen → Lexeme
lexeme_seen s = record { kind = s.kind; bytes = s.bytes.now; line = s.line }

-- A reader's answer, with the tokens left, is what reading comes to. After a refusal those from the refused token on are left.
abbrev pub Gives : {A : Type 0} → Result A Halt → List Lexeme → Outcome A → Type 0
Gives (Ok x) left o = o ≡ got x left
Gives (Err halts.Syntax) left o = o ≡ bad left
Gives (Err halts.Room) left o = o ≡ out
Gives (Err halts.NoMemory) left o = Unit {0}

-- The answer is not out of memory.
abbrev pub NeedsNoMemory : {A : Type 0} → Result A Halt → Type 0
NeedsNoMemory r = IsErrOf r halts.NoMemory → ⊥

-- Where the answer is out of memory, the tokens left are those of before.
abbrev pub StaysWithoutMemory : {A : Type 0} → Result A Halt → List Lexeme → List Lexeme → Type 0
StaysWithoutMemory r old new = IsErrOf r halts.NoMemory → new ≡ old

-- The number that the next token is.
abbrev pub value_at : List Lexeme → Option ℕ
value_at [] = None
value_at (t ∷ ts) = cond (is_number t.kind) (Some (number_from 0 t.bytes)) None

-- Reading a word, a name that is told, a name, a number, a text in quotes.
abbrev pub word_at : List ℕ → List Lexeme → Outcome (Unit {0})
word_at b ts = then (token_at (fixed b) ts) (λ t r. got tt r)

abbrev pub named_at : List ℕ → List Lexeme → Outcome (Unit {0})
named_at b ts = then (token_at (named b) ts) (λ t r. got tt r)

abbrev pub name_at : List Lexeme → Outcome (List ℕ)
name_at ts = then (token_at name ts) (λ t r. got t.bytes r)

abbrev pub number_at : ℕ → ℕ → List Lexeme → Outcome ℕ
number_at low high ts = then (token_at (number low high) ts) (λ t r. got (number_from 0 t.bytes) r)

abbrev pub text_at : List Lexeme → Outcome (List ℕ)
text_at ts = then (token_at text ts) (λ t r. got (text_bytes t.bytes) r)
