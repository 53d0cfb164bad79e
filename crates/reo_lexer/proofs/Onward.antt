-- Tokens of a front of a text, and texts that go on.
use Rattle.std.proofs.Common.{◌≡◌, ℕ, zero, suc, ◌+◌, ◌≤◌, true, List, [], ◌∷◌, ◌++◌, length, take, drop, refl, sym, ◌∙◌, ap, subst, arith, append_assoc, append-nil, length-append, zero-add}
use Rattle.std.proofs.lemmas.Bool.{and_parts}
use Rattle.reo_grammar.specs.Spelling.{spells, is_short}
use Rattle.reo_grammar.specs.Tokens.{Lexeme, AreReal, Alike}
use Rattle.reo_lexer.specs.declared.token.Token.{Token}
use Rattle.reo_lexer.specs.Gaps.{IsGap, lines_in}
use Rattle.reo_lexer.specs.Gaps.IsGap.{no_gap, space, comment}
use Rattle.reo_lexer.specs.Lexing.{IsToken, Leads, Runs, AtEnd, IsTokens, lexemes_of}
use Rattle.reo_lexer.specs.Onward.{GoesOn}
use Rattle.reo_lexer.proofs.Spans.{lead-lies}
use Rattle.reo_lexer.proofs.Cut.{is_cut, cut-token, lf-cut, token-shorter, token-longer}

-- Two gaps make one.
pub gap-append : (g h : List ℕ) → IsGap g → IsGap h → IsGap (g ++ h)
gap-append g h no_gap i = i
gap-append g h (space b r e j) i = space b (r ++ h) e (gap-append r h j i)
gap-append g h (comment c r e j) i = rw append_assoc (comment c (r ++ h) e (gap-append r h j i))

lf_gap : IsGap (10 ∷ [])
lf_gap = space 10 [] refl no_gap

-- Before a token the text ends with the tokens before it.
pub front-runs : (at line : ℕ) (left : List ℕ) (ts : List Token) (t : Token) (us : List Token) → Runs AtEnd at line left (ts ++ t ∷ us)
    → (l : List ℕ) × (r : List ℕ) × (left ≡ l ++ r) × (at + length l ≡ t.start) × Runs AtEnd at line l ts
front-runs at line left [] t us (after, l, r) =
    (l.gap, l.bytes ++ after, l.cut, sym l.start, gap-append l.gap (10 ∷ []) l.between lf_gap)
front-runs at line left (s ∷ ts) t us (after, l, r) =
    let (f, b, w, n, i) = front-runs s.end s.line after ts t us r in
    let c : left ≡ (l.gap ++ (l.bytes ++ f)) ++ b = l.cut ∙ ap (λ z. l.gap ++ (l.bytes ++ z)) w ∙ (rw (append_assoc, append_assoc) refl) in (
      l.gap ++ (l.bytes ++ f),
      b,
      c,
      omega (arith, n, l.start, l.end, length-append l.gap (l.bytes ++ f), length-append l.bytes f),
      (f, record { gap = l.gap; bytes = l.bytes; cut = refl; between = l.between; token = token-shorter s.kind l.bytes f b (subst (λ z. IsToken s.kind l.bytes z) w l.token); start = l.start; end = l.end; line = l.line }, i),
    )

take-front : (l r : List ℕ) (n : ℕ) → length l ≡ n → take n (l ++ r) ≡ l
take-front [] r zero h = refl
take-front [] r (suc n) h = absurd (omega arith)
take-front (x ∷ l) r zero h = absurd (omega arith)
take-front (x ∷ l) r (suc n) h = ap (λ z. x ∷ z) (take-front l r n (omega arith))

pub front-tokens : (text : List ℕ) (ts : List Token) (t : Token) (us : List Token) → IsTokens text (ts ++ t ∷ us) → IsTokens (take t.start text) ts
front-tokens text ts t us h =
    let (l, r, w, n, i) = front-runs 0 1 text ts t us h in
    let k : length l ≡ t.start = sym (zero-add (length l)) ∙ n in
    let e : take t.start text ≡ l = ap (take t.start) w ∙ take-front l r t.start k in
    rw e i

-- The bytes of tokens, an LF before each.
abbrev written : List Lexeme → List ℕ
written [] = []
written (t ∷ ts) = 10 ∷ (t.bytes ++ written ts)

-- Tokens that texts have follow a text that ends.
pub written-runs : (text : List ℕ) (at line : ℕ) (left : List ℕ) (c : List Lexeme) → at ≤ length text → left ++ written c ≡ drop at text → AtEnd line left → AreReal c
    → (us : List Token) × Runs AtEnd at line (left ++ written c) us × Alike c (lexemes_of text us)
written-runs text at line left [] h e a r = ([], rw append-nil a, tt)
written-runs text at line left (t ∷ c) h e a (x, r) =
    let s : spells t.kind t.bytes ≡ true = (and_parts (spells t.kind t.bytes) (is_short t.kind t.bytes) x).0 in
    let q : is_short t.kind t.bytes ≡ true = (and_parts (spells t.kind t.bytes) (is_short t.kind t.bytes) x).1 in
    let u : Token = record { kind = t.kind; start = at + length (left ++ 10 ∷ []); end = at + length (left ++ 10 ∷ []) + length t.bytes; line = line + lines_in (left ++ 10 ∷ []) } in
    let w : left ++ (10 ∷ (t.bytes ++ written c)) ≡ (left ++ 10 ∷ []) ++ (t.bytes ++ written c) = sym (append_assoc left (10 ∷ []) (t.bytes ++ written c)) in
    let l : Leads at line (left ++ (10 ∷ (t.bytes ++ written c))) u (written c) =
    record { gap = left ++ 10 ∷ []; bytes = t.bytes; cut = w; between = a; token = cut-token t.kind t.bytes (written c) s q (next t.kind t.bytes c s); start = refl; end = refl; line = refl } in
    let (p, d, b, _) = lead-lies text at line (left ++ (10 ∷ (t.bytes ++ written c))) u (written c) h e l in
    let (us, i, j) = written-runs text u.end u.line [] c p.1 d lf_gap r in
    (u ∷ us, (written c, l, i), (refl, sym b, j))
  where
    next : (k : _) (bytes : List ℕ) (c : List Lexeme) → spells k bytes ≡ true → is_cut k bytes (written c) ≡ true
    next k bytes [] s = refl
    next k bytes (t ∷ c) s = lf-cut k bytes (t.bytes ++ written c) s

pub goes-on : (text whole : List ℕ) (at line : ℕ) (left : List ℕ) (ts : List Token) (c : List Lexeme) → at ≤ length whole → left ++ written c ≡ drop at whole
    → Runs AtEnd at line left ts → AreReal c → (us : List Token) × Runs AtEnd at line (left ++ written c) (ts ++ us) × Alike c (lexemes_of whole us)
goes-on text whole at line left [] c h e r x = written-runs whole at line left c h e r x
goes-on text whole at line left (t ∷ ts) c h e (after, l, r) x =
    let w : left ++ written c ≡ l.gap ++ (l.bytes ++ (after ++ written c)) = ap (λ z. z ++ written c) l.cut ∙ append_assoc l.gap (l.bytes ++ after) (written c) ∙ ap (λ z. l.gap ++ z) (append_assoc l.bytes after (written c)) in
    let m : Leads at line (left ++ written c) t (after ++ written c) =
    record { gap = l.gap; bytes = l.bytes; cut = w; between = l.between; token = kept t.kind l.bytes after c l.token; start = l.start; end = l.end; line = l.line } in
    let (p, d, b, _) = lead-lies whole at line (left ++ written c) t (after ++ written c) h e m in
    let (us, i, j) = goes-on text whole t.end t.line after ts c p.1 d r x in
    (us, (after ++ written c, m, i), j)
  where
    kept : (k : _) (bytes after : List ℕ) (c : List Lexeme) → IsToken k bytes after → IsToken k bytes (after ++ written c)
    kept k bytes after [] t = rw append-nil t
    kept k bytes after (u ∷ c) t = token-longer k bytes after (u.bytes ++ written c) t

pub real-goes-on : (text : List ℕ) (ts : List Token) (c : List Lexeme) → IsTokens text ts → AreReal c → GoesOn text ts c
real-goes-on text ts c h r =
    let (us, i, j) = goes-on text (text ++ written c) 0 1 text ts c (omega arith) refl h r in
    (written c, us, i, j)
