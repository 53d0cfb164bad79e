-- The first fault of a text that has no tokens.
use Rattle.std.specs.Prelude.{◌≡◌, ℕ, ◌+◌, ◌<◌, ◌==◌, Bool, true, false, ◌&&◌, ◌||◌, not, cond, List, [], ◌∷◌, ◌++◌, ◌⊎◌, length, Result, Ok, Err}
use Rattle.reo_values.specs.Bytes.{line_feed, quote, hash, backslash}
use Rattle.reo_values.specs.Names.{is_digit}
use Rattle.reo_grammar.specs.declared.kind.TokenKind.{TokenKind}
use Rattle.reo_grammar.specs.Bytes.{is_unescaped, is_escaped}
use Rattle.reo_grammar.specs.Spelling.{spells, is_digits}
use Rattle.reo_lexer.specs.declared.token.Token.{Token}
use Rattle.reo_lexer.specs.declared.token.LexFault.{LexFault}
use Rattle.reo_lexer.specs.declared.token.LexFault.TheVariants as faults
use Rattle.reo_lexer.specs.Gaps.{IsGap, is_space, lines_in}
use Rattle.reo_lexer.specs.Lexing.{Runs, IsTokens}

-- LF or CR.
abbrev pub is_break : ℕ → Bool
is_break b = b == line_feed || b == 13

-- The end, or an LF or CR next.
abbrev pub stops : List ℕ → Bool
stops [] = true
stops (b ∷ bs) = is_break b

-- The next byte, if there is one, is not of the class.
abbrev pub ends : (ℕ → Bool) → List ℕ → Bool
ends p [] = true
ends p (b ∷ bs) = not (p b)

-- Bytes within a text in quotes, from the opening quote on. The first flag says that a `\` stands before them, the second
-- that they end with one that escapes what comes next.
abbrev pub is_body : Bool → List ℕ → Bool → Bool
is_body true [] escape = escape
is_body false [] escape = not escape
is_body true (b ∷ bs) escape = is_escaped b && is_body false bs escape
is_body false (b ∷ bs) escape = cond (b == backslash) (is_body true bs escape) (is_unescaped b && is_body false bs escape)

-- A byte that may not stand there, and is no LF or CR: behind a `\`, or elsewhere.
abbrev pub is_wrong : Bool → ℕ → Bool
is_wrong true b = not (is_escaped b) && not (is_break b)
is_wrong false b = (not (is_unescaped b) && not (is_escaped b)) && not (is_break b)

-- What is left begins with a byte that begins no token, no text in quotes and no gap.
abbrev pub BeginsNone : List ℕ → Type 0
BeginsNone left = (b : ℕ) × (r : List ℕ) × (left ≡ b ∷ r) × ((is_space b || (b == hash || b == quote)) ≡ false)
    × ((kind : TokenKind) (front more : List ℕ) → left ≡ front ++ more → spells kind front ≡ true → ⊥)

-- It begins with a text in quotes in which a wrong byte stands before any end of it.
abbrev pub HasWrong : List ℕ → Type 0
HasWrong left = (escape : Bool) × (body : List ℕ) × (b : ℕ) × (r : List ℕ) × (left ≡ quote ∷ (body ++ (b ∷ r))) × (is_body false body escape ≡ true) × (is_wrong escape b ≡ true)

-- It begins with a text in quotes that meets an LF, a CR or the end before its closing quote.
abbrev pub IsOpen : List ℕ → Type 0
IsOpen left = (escape : Bool) × (body : List ℕ) × (r : List ℕ) × (left ≡ quote ∷ (body ++ r)) × (is_body false body escape ≡ true) × (stops r ≡ true)

-- It begins with a run of more than 18 digits.
abbrev pub IsLong : List ℕ → Type 0
IsLong left = (digits : List ℕ) × (r : List ℕ) × (left ≡ digits ++ r) × (is_digits digits ≡ true) × (ends is_digit r ≡ true) × (18 < length digits)

-- What is left on a line begins with this fault.
abbrev pub BeginsFault : LexFault → ℕ → List ℕ → Type 0
BeginsFault (faults.BadByte l) line left = (l ≡ line) × (BeginsNone left ⊎ HasWrong left)
BeginsFault (faults.OpenText l) line left = (l ≡ line) × IsOpen left
BeginsFault (faults.NumberTooLong l) line left = (l ≡ line) × IsLong left
BeginsFault faults.NoMemory line left = ⊥

-- A gap, and behind it the fault.
abbrev pub AtFault : LexFault → ℕ → List ℕ → Type 0
AtFault f line left = (gap : List ℕ) × (after : List ℕ) × (left ≡ gap ++ after) × IsGap gap × BeginsFault f (line + lines_in gap) after

-- The text is tokens and gaps up to the fault.
abbrev pub IsFault : List ℕ → LexFault → Type 0
IsFault text f = (ts : List Token) × Runs (AtFault f) 0 1 text ts

-- What reading a text answers: its tokens, or its fault, or out of memory.
abbrev pub IsLexed : List ℕ → Result (List Token) LexFault → Type 0
IsLexed text (Ok ts) = IsTokens text ts
IsLexed text (Err faults.NoMemory) = Unit {0}
IsLexed text (Err f) = IsFault text f

-- The answer is these tokens, or out of memory.
abbrev pub IsThese : List Token → Result (List Token) LexFault → Type 0
IsThese ts (Ok us) = us ≡ ts
IsThese ts (Err faults.NoMemory) = Unit {0}
IsThese ts (Err f) = ⊥

-- The answer is this fault, or out of memory.
abbrev pub IsThat : LexFault → Result (List Token) LexFault → Type 0
IsThat f (Ok us) = ⊥
IsThat f (Err faults.NoMemory) = Unit {0}
IsThat f (Err g) = g ≡ f
