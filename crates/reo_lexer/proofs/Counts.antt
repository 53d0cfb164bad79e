-- A text has no more tokens than bytes.
use Rattle.std.proofs.Common.{◌≡◌, ◌∙◌, ℕ, ◌≤◌, ◌<◌, true, List, [], ◌∷◌, ◌++◌, length, ap, arith, length-append}
use Rattle.reo_grammar.specs.declared.kind.TokenKind.{TokenKind}
use Rattle.reo_grammar.specs.Spelling.{spells}
use Rattle.reo_lexer.specs.declared.token.Token.{Token}
use Rattle.reo_lexer.specs.Lexing.{Runs}
use Rattle.reo_lexer.proofs.Spelled.{no-empty}

some_byte : (kind : TokenKind) (bytes : List ℕ) → spells kind bytes ≡ true → 0 < length bytes
some_byte kind [] h = absurd (no-empty kind h)
some_byte kind (b ∷ bs) h = omega arith

-- Tokens that run through bytes are no more than these.
pub runs_few : (End : ℕ → List ℕ → Type 0) (at line : ℕ) (left : List ℕ) (ts : List Token) → Runs End at line left ts → length ts ≤ length left
runs_few End at line left [] runs = omega arith
runs_few End at line left (t ∷ ts) (after, l, runs) =
    let rest = runs_few End t.end t.line after ts runs in
    let some = some_byte t.kind l.bytes l.token.spelled in
    let m = ap length l.cut ∙ length-append l.gap (l.bytes ++ after) in
    let n = length-append l.bytes after in
    omega arith
