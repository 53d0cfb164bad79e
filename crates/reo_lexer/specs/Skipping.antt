-- Parts of a text by where they end, as the reader of tokens finds them.
use Rattle.std.specs.Prelude.{ℕ, ◌+◌, ◌==◌, ◌≤◌, ◌<◌, Option, Some, None, Result, Ok, Err, Bool, true, false, cond, List, [], ◌∷◌, length, take, drop}
use Rattle.reo_values.specs.Bytes.{hash, backslash}
use Rattle.reo_grammar.specs.declared.kind.TokenKind.{TokenKind}
use Rattle.reo_lexer.specs.declared.token.Token.{Token}
use Rattle.reo_lexer.specs.declared.token.LexFault.{LexFault}
use Rattle.reo_lexer.specs.declared.token.LexFault.TheVariants as faults
use Rattle.reo_lexer.specs.Lexing.{IsToken, Leads, AtEnd}
use Rattle.reo_lexer.specs.Faults.{AtFault}
use Rattle.reo_grammar.specs.Bytes.{is_unescaped, is_escaped, one_of}
use Rattle.reo_grammar.specs.Spelling.{signs}
use Rattle.reo_lexer.specs.Gaps.{is_space, is_no_lf}

-- What is left behind the gap in front. The flag says that a comment is open.
abbrev pub behind : Bool → List ℕ → List ℕ
behind true [] = []
behind true (b ∷ bs) = behind (is_no_lf b) bs
behind false [] = []
behind false (b ∷ bs) = cond (is_space b) (behind false bs) (cond (b == hash) (behind true bs) (b ∷ bs))

-- Where the inside of a text in quotes ends: what is left there, and whether a `\` stands before it. The flag says that one
-- stands before the bytes.
pub record Inside : Type 0 where
  pub escape : Bool
  pub left : List ℕ

abbrev pub inside : Bool → List ℕ → Inside
inside e [] = record { escape = e; left = [] }
inside true (b ∷ bs) = cond (is_escaped b) (inside false bs) (record { escape = true; left = b ∷ bs })
inside false (b ∷ bs) = cond (b == backslash) (inside true bs) (cond (is_unescaped b) (inside false bs) (record { escape = false; left = b ∷ bs }))

-- The length of the longest sign in front, 0 where there is none.
abbrev pub sign_size : List ℕ → ℕ
sign_size [] = 0
sign_size (a ∷ []) = cond (one_of (a ∷ []) signs) 1 0
sign_size (a ∷ b ∷ bs) = cond (one_of (a ∷ b ∷ []) signs) 2 (cond (one_of (a ∷ []) signs) 1 0)

-- So many bytes in front are a token of the kind.
abbrev pub IsFront : TokenKind → ℕ → List ℕ → Type 0
IsFront kind n left = (n ≤ length left) × IsToken kind (take n left) (drop n left)

-- What the next token is: none, where a gap alone is left; one that lies in the text, behind a gap; or the fault there.
abbrev pub Finds : List ℕ → ℕ → ℕ → Result (Option Token) LexFault → Type 0
Finds text at line (Ok None) = AtEnd line (drop at text)
Finds text at line (Ok (Some t)) = Leads at line (drop at text) t (drop t.end text) × (at < t.end) × (t.end ≤ length text) × (t.line ≤ t.end + 1)
Finds text at line (Err faults.NoMemory) = Unit {0}
Finds text at line (Err f) = AtFault f line (drop at text)
