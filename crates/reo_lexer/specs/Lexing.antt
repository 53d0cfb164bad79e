-- The tokens of a text: gaps and tokens in turn, each token the longest that fits, with its span and its line.
use Rattle.std.specs.Prelude.{◌≡◌, ℕ, ◌+◌, ◌-◌, ◌≤◌, true, List, [], ◌∷◌, ◌++◌, length, take, drop, map}
use Rattle.reo_values.specs.Bytes.{line_feed}
use Rattle.reo_grammar.specs.declared.kind.TokenKind.{TokenKind}
use Rattle.reo_grammar.specs.Spelling.{spells, is_short}
use Rattle.reo_grammar.specs.Tokens.{Lexeme}
use Rattle.reo_lexer.specs.declared.token.Token.{Token}
use Rattle.reo_lexer.specs.Gaps.{IsGap, lines_in}

-- The bytes, with the rest behind them, are a token of a kind: spelled so, and no longer front is spelled as any token.
pub record IsToken (kind : TokenKind) (bytes rest : List ℕ) : Type 0 where
  pub spelled : spells kind bytes ≡ true
  pub short : is_short kind bytes ≡ true
  pub longest : (other : TokenKind) (more after : List ℕ) → rest ≡ more ++ after → spells other (bytes ++ more) ≡ true → more ≡ []

-- At a place, on a line and with the text left there: a gap, and behind it the token, and behind that what is left.
pub record Leads (at from : ℕ) (left : List ℕ) (t : Token) (after : List ℕ) : Type 0 where
  pub gap : List ℕ
  pub bytes : List ℕ
  pub cut : left ≡ gap ++ (bytes ++ after)
  pub between : IsGap gap
  pub token : IsToken t.kind bytes after
  pub start : t.start ≡ at + length gap
  pub end : t.end ≡ t.start + length bytes
  pub line : t.line ≡ from + lines_in gap

-- From a place and a line on: these tokens with gaps before them, and then an end of some sort.
abbrev pub Runs : (ℕ → List ℕ → Type 0) → ℕ → ℕ → List ℕ → List Token → Type 0
Runs End at line left [] = End line left
Runs End at line left (t ∷ ts) = (after : List ℕ) × Leads at line left t after × Runs End t.end t.line after ts

-- A gap alone is left; at the end of a text an LF may be missing.
abbrev pub AtEnd : ℕ → List ℕ → Type 0
AtEnd line left = IsGap (left ++ line_feed ∷ [])

-- The text is these tokens with gaps before, between and behind them.
abbrev pub IsTokens : List ℕ → List Token → Type 0
IsTokens text ts = Runs AtEnd 0 1 text ts

-- The lexeme of a token.
abbrev pub lexeme_of : List ℕ → Token → Lexeme
lexeme_of text t = record { kind = t.kind; bytes = take (t.end - t.start) (drop t.start text); line = t.line }

abbrev pub lexemes_of : List ℕ → List Token → List Lexeme
lexemes_of text ts = map (lexeme_of text) ts

-- The token's span lies in the text.
abbrev pub Lies : List ℕ → Token → Type 0
Lies text t = (t.start ≤ t.end) × (t.end ≤ length text)
