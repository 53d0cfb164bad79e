-- The spans of tokens lie in the text, and the tokens are real.
use Rattle.std.proofs.Common.{◌≡◌, ℕ, zero, suc, ◌+◌, ◌-◌, ◌≤◌, true, List, [], ◌∷◌, ◌++◌, length, take, drop, refl, sym, ◌∙◌, ap, arith, length-append, length-drop, drop-drop, Ok, Err, Result, All, IfOk}
use Rattle.reo_grammar.specs.Spelling.{spells, is_short}
use Rattle.reo_grammar.specs.Tokens.{is_real, AreReal}
use Rattle.std.proofs.lemmas.Bool.{and_from}
use Rattle.reo_lexer.specs.declared.token.Token.{Token}
use Rattle.reo_lexer.specs.declared.token.LexFault.{LexFault}
use Rattle.reo_lexer.specs.Lexing.{Leads, Runs, AtEnd, IsTokens, lexeme_of, lexemes_of, Lies}
use Rattle.reo_lexer.specs.Faults.{IsLexed}
use Rattle.reo_lexer.proofs.Fronts.{take-cut, drop-cut}

-- Each span lies in the text.
abbrev pub AllLie : List ℕ → List Token → Type 0
AllLie text [] = Unit {0}
AllLie text (t ∷ ts) = Lies text t × AllLie text ts

pub all-lie : (text : List ℕ) (ts : List Token) → AllLie text ts → All (Lies text) ts
all-lie text [] h k d i = absurd (omega arith)
all-lie text (t ∷ ts) (h, hs) zero d i = h
all-lie text (t ∷ ts) (h, hs) (suc k) d i = all-lie text ts hs k d (omega arith)

pub lead-lies : (text : List ℕ) (at line : ℕ) (left : List ℕ) (t : Token) (after : List ℕ) → at ≤ length text → left ≡ drop at text → (l : Leads at line left t after)
    → Lies text t × (after ≡ drop t.end text) × (take (t.end - t.start) (drop t.start text) ≡ l.bytes) × (is_real (lexeme_of text t) ≡ true)
lead-lies text at line left t after h e l =
    let n : length text ≡ at + length left = omega (arith, length-drop at text, ap length e) in
    let m : length left ≡ length l.gap + (length l.bytes + length after) = ap length l.cut ∙ length-append l.gap (l.bytes ++ after) ∙ ap (λ z. length l.gap + z) (length-append l.bytes after) in
    let d : drop t.start text ≡ l.bytes ++ after =
    ap (λ z. drop z text) (l.start ∙ omega arith) ∙ sym (drop-drop (length l.gap) at text) ∙ ap (drop (length l.gap)) (sym e) ∙ drop-cut left l.gap (l.bytes ++ after) (length l.gap) l.cut refl in
    let b : take (t.end - t.start) (drop t.start text) ≡ l.bytes = take-cut (drop t.start text) l.bytes after (t.end - t.start) d (omega (arith, l.end)) in
    let f : drop t.end text ≡ after =
    ap (λ z. drop z text) (l.end ∙ omega arith) ∙ sym (drop-drop (length l.bytes) t.start text) ∙ drop-cut (drop t.start text) l.bytes after (length l.bytes) d refl in
    ((omega (arith, l.end), omega (arith, l.end, l.start)), sym f, b, rw b (and_from (spells t.kind l.bytes) (is_short t.kind l.bytes) l.token.spelled l.token.short))

pub runs-lie : (End : ℕ → List ℕ → Type 0) (text : List ℕ) (at line : ℕ) (left : List ℕ) (ts : List Token) → at ≤ length text → left ≡ drop at text → Runs End at line left ts
    → AllLie text ts × AreReal (lexemes_of text ts)
runs-lie End text at line left [] h e r = (tt, tt)
runs-lie End text at line left (t ∷ ts) h e (after, l, r) =
    let (p, q, _, w) = lead-lies text at line left t after h e l in
    let (i, j) = runs-lie End text t.end t.line after ts p.1 q r in
    ((p, i), (w, j))

pub tokens-lie : (text : List ℕ) (ts : List Token) → IsTokens text ts → All (Lies text) ts
tokens-lie text ts h = all-lie text ts (runs-lie AtEnd text 0 1 text ts (omega arith) refl h).0

pub tokens-real : (text : List ℕ) (ts : List Token) → IsTokens text ts → AreReal (lexemes_of text ts)
tokens-real text ts h = (runs-lie AtEnd text 0 1 text ts (omega arith) refl h).1

pub lexed-lie : (text : List ℕ) (r : Result (List Token) LexFault) → IsLexed text r → IfOk r (λ ts. All (Lies text) ts)
lexed-lie text (Ok ts) h = tokens-lie text ts h
lexed-lie text (Err f) h = tt

pub lexed-real : (text : List ℕ) (r : Result (List Token) LexFault) → IsLexed text r → IfOk r (λ ts. AreReal (lexemes_of text ts))
lexed-real text (Ok ts) h = tokens-real text ts h
lexed-real text (Err f) h = tt
