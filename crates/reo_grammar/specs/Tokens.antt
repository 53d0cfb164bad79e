-- Tokens as the grammar sees them, and the classes of tokens that its rules name.
use Rattle.std.specs.Prelude.{ℕ, ◌+◌, ◌-◌, ◌*◌, ◌≡◌, Bool, true, false, ◌&&◌, not, List, [], ◌∷◌, nat_le}
use Rattle.std.specs.Str.{bytes_eq}
use Rattle.reo_grammar.specs.declared.kind.TokenKind.{TokenKind}
use Rattle.reo_grammar.specs.declared.kind.TokenKind.TheVariants as kinds
use Rattle.reo_grammar.specs.Bytes.{one_of}
use Rattle.reo_grammar.specs.Spelling.{spells, is_short}

-- A lexeme is a token as the grammar sees it: its kind, its bytes as they stand in the text, and its line.
pub record Lexeme : Type 0 where
  pub kind : TokenKind
  pub bytes : List ℕ
  pub line : ℕ

-- A token that some text has.
abbrev pub is_real : Lexeme → Bool
is_real t = spells t.kind t.bytes && is_short t.kind t.bytes

abbrev pub AreReal : List Lexeme → Type 0
AreReal [] = Unit {0}
AreReal (t ∷ ts) = (is_real t ≡ true) × AreReal ts

-- The number that digits stand for, behind digits that stand for n.
abbrev pub number_from : ℕ → List ℕ → ℕ
number_from n [] = n
number_from n (b ∷ bs) = number_from (n * 10 + (b - 48)) bs

-- A class of tokens: a word or sign, one of several, any token but one word or sign, names, the name of these bytes,
-- numbers from the first to the second, texts.
pub data Class : Type 0 where
  fixed : List ℕ → Class
  among : List (List ℕ) → Class
  other : List ℕ → Class
  name : Class
  named : List ℕ → Class
  number : ℕ → ℕ → Class
  text : Class

-- A word or a sign.
abbrev pub is_fixed : TokenKind → Bool
is_fixed kinds.Word = true
is_fixed kinds.Sign = true
is_fixed _ = false

abbrev pub is_name : TokenKind → Bool
is_name kinds.Name = true
is_name _ = false

abbrev pub is_number : TokenKind → Bool
is_number kinds.Number = true
is_number _ = false

abbrev pub is_text : TokenKind → Bool
is_text kinds.Text = true
is_text _ = false

-- The token is of the class.
abbrev pub matches : Class → Lexeme → Bool
matches (fixed b) t = is_fixed t.kind && bytes_eq t.bytes b
matches (among bs) t = is_fixed t.kind && one_of t.bytes bs
matches (other b) t = not (is_fixed t.kind && bytes_eq t.bytes b)
matches name t = is_name t.kind
matches (named b) t = is_name t.kind && bytes_eq t.bytes b
matches (number low high) t = is_number t.kind && (nat_le low (number_from 0 t.bytes) && nat_le (number_from 0 t.bytes) high)
matches text t = is_text t.kind

-- The same tokens, lines aside.
abbrev pub Alike : List Lexeme → List Lexeme → Type 0
Alike [] [] = Unit {0}
Alike (t ∷ ts) (u ∷ us) = (t.kind ≡ u.kind) × (t.bytes ≡ u.bytes) × Alike ts us
Alike _ _ = ⊥
