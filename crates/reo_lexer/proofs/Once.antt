-- A text has one list of tokens or one fault.
use Rattle.std.proofs.Common.{◌≡◌, ℕ, ◌+◌, ◌≤◌, ◌<◌, Bool, true, false, ◌&&◌, ◌||◌, not, List, [], ◌∷◌, ◌++◌, length, ◌⊎◌, inl, inr, refl, sym, ◌∙◌, ap, subst, arith, append_assoc, append-nil, ◌==◌, nat_le}
use Rattle.std.proofs.lemmas.Bool.{and_parts, both_ways, not-true}
use Rattle.std.specs.List.{list_all}
use Rattle.std.proofs.lemmas.Bool.Decides.{nat_tests}
use Rattle.reo_grammar.specs.declared.kind.TokenKind.{TokenKind}
use Rattle.reo_grammar.specs.declared.kind.TokenKind.TheVariants as kinds
use Rattle.reo_values.specs.Names.{is_digit}
use Rattle.reo_grammar.specs.Spelling.{spells, is_short, is_digits, is_closed}
use Rattle.reo_lexer.specs.declared.token.Token.{Token}
use Rattle.reo_lexer.specs.declared.token.LexFault.{LexFault}
use Rattle.reo_lexer.specs.declared.token.LexFault.TheVariants as faults
use Rattle.reo_lexer.specs.Gaps.{IsGap, is_space, lines_in}
use Rattle.reo_lexer.specs.Lexing.{IsToken, Leads, Runs, AtEnd}
use Rattle.reo_lexer.specs.Faults.{stops, is_break, is_wrong, BeginsNone, HasWrong, IsOpen, IsLong, BeginsFault, AtFault}
use Rattle.reo_lexer.specs.Skipping.{behind, Inside, inside}
use Rattle.reo_lexer.proofs.Skipped.{gap-skipped, end-behind, behind-here}
use Rattle.reo_lexer.proofs.Quotes.{goes-inside, closed-goes, wrong-halts, stops-halts}
use Rattle.reo_lexer.proofs.Spelled.{one-kind, no-empty, by-digit, by-quote, no_gap_head, token-head, digit-head, each-next, ends-no}
use Rattle.reo_lexer.proofs.Fronts.{cancel, fronts}

-- What begins no gap is what stands behind the gap before it.
behind-head : (left : List ℕ) → no_gap_head left ≡ true → behind false left ≡ left
behind-head [] h = absurd (cc)
behind-head (b ∷ r) h =
    behind-here b r (not-true (is_space b) ((and_parts (not (is_space b)) (not (b == 35)) h).0)) (not-true (b == 35) ((and_parts (not (is_space b)) (not (b == 35)) h).1))

head-append : (a b : List ℕ) → no_gap_head a ≡ true → no_gap_head (a ++ b) ≡ true
head-append [] b h = absurd (cc)
head-append (x ∷ a) b h = h

pub behind-cut : (left gap rest : List ℕ) → left ≡ gap ++ rest → IsGap gap → no_gap_head rest ≡ true → behind false left ≡ rest
behind-cut left gap rest w i h = rw w (gap-skipped gap rest i ∙ behind-head rest h)

same-gap : (left g h r s : List ℕ) → left ≡ g ++ r → left ≡ h ++ s → IsGap g → IsGap h → no_gap_head r ≡ true → no_gap_head s ≡ true → (g ≡ h) × (r ≡ s)
same-gap left g h r s w v i j k l =
    let e : r ≡ s = sym (behind-cut left g r w i k) ∙ behind-cut left h s v j l in
    let q : g ++ s ≡ h ++ s = (rw e at (sym w)) ∙ v in
    (cancel g h s q, e)

-- Two tokens in front of the same bytes are the same.
same-bytes : (k l : TokenKind) (a b c d : List ℕ) → a ++ c ≡ b ++ d → IsToken k a c → IsToken l b d → (a ≡ b) × (c ≡ d) × (k ≡ l)
same-bytes k l a b c d e t u =
    elim (fronts a c b d e) [
      | inl (m, q, r) ↦ let n : m ≡ [] = t.longest l m d r (rw q at u.spelled) in
          let ab : a ≡ b = sym (rw (q, n, append-nil) refl) in
          (ab, rw (r, n) refl, one-kind k l b (rw ab at t.spelled) u.spelled)
      | inr (m, q, r) ↦ let n : m ≡ [] = u.longest k m c r (rw q at t.spelled) in
          let ab : a ≡ b = rw (q, n, append-nil) refl in
          (ab, sym (rw (r, n) refl), one-kind k l b (rw ab at t.spelled) u.spelled)
    ]

same-token : (t u : Token) → t.kind ≡ u.kind → t.start ≡ u.start → t.end ≡ u.end → t.line ≡ u.line → t ≡ u
same-token t u k s e l = let w : record { kind = t.kind; start = t.start; end = t.end; line = t.line } ≡ u = rw (k, s, e, l) refl in w

leads-head : (at line : ℕ) (left : List ℕ) (t : Token) (after : List ℕ) (l : Leads at line left t after) → no_gap_head (l.bytes ++ after) ≡ true
leads-head at line left t after l = head-append l.bytes after (token-head t.kind l.bytes l.token.spelled)

pub same-lead : (at line : ℕ) (left : List ℕ) (t u : Token) (a b : List ℕ) → Leads at line left t a → Leads at line left u b → (t ≡ u) × (a ≡ b)
same-lead at line left t u a b l m =
    let (g, r) = same-gap left l.gap m.gap (l.bytes ++ a) (m.bytes ++ b) l.cut m.cut l.between m.between (leads-head at line left t a l) (leads-head at line left u b m) in
    let (x, y, k) = same-bytes t.kind u.kind l.bytes m.bytes a b r l.token m.token in
    let s : t.start ≡ u.start = l.start ∙ ap (λ z. at + length z) g ∙ sym m.start in
    let e : t.end ≡ u.end = l.end ∙ (rw (s, x) refl) ∙ sym m.end in
    let n : t.line ≡ u.line = l.line ∙ ap (λ z. line + lines_in z) g ∙ sym m.line in
    (same-token t u k s e n, y)

-- How a text ends: with its last gap, or with a fault.
pub data Ending : Type 0 where
  done : Ending
  faulty : LexFault → Ending

abbrev pub EndsBy : Ending → ℕ → List ℕ → Type 0
EndsBy done = AtEnd
EndsBy (faulty f) = AtFault f

-- The first bytes of faults.
none-head : (left : List ℕ) → BeginsNone left → no_gap_head left ≡ true
none-head left (b, r, w, h, n) = rw w (by (is_space b) (b == 35) (b == 34) h)
  where
    by : (x y z : Bool) → (x || (y || z)) ≡ false → (not x && not y) ≡ true
    by true y z h = absurd (cc)
    by false true z h = absurd (cc)
    by false false z h = refl

long-head : (left : List ℕ) → IsLong left → (b : ℕ) × (r : List ℕ) × (left ≡ b ∷ r) × (is_digit b ≡ true)
long-head left ([], r, w, d, e, n) = absurd (cc)
long-head left (b ∷ ds, r, w, d, e, n) = (b, ds ++ r, w, (and_parts (is_digit b) (list_all is_digit ds) d).0)

pub fault-head : (f : LexFault) (line : ℕ) (left : List ℕ) → BeginsFault f line left → no_gap_head left ≡ true
fault-head (faults.BadByte l) line left (e, inl n) = none-head left n
fault-head (faults.BadByte l) line left (e, inr (s, body, b, r, w, g, i)) = rw w refl
fault-head (faults.OpenText l) line left (e, (s, body, r, w, g, i)) = rw w refl
fault-head (faults.NumberTooLong l) line left (e, h) = let (b, r, w, d) = long-head left h in rw w (digit-head b r d)
fault-head faults.NoMemory line left h = absurd h

joined : (bs inner after : List ℕ) → bs ≡ inner ++ 34 ∷ [] → bs ++ after ≡ inner ++ (34 ∷ after)
joined bs inner after u = rw u (append_assoc inner (34 ∷ []) after)

wrong-quote : (to : Bool) (b : ℕ) → b ≡ 34 → to ≡ false → is_wrong to b ≡ true → ⊥
wrong-quote true b q p h = cc
wrong-quote false b q p h = let k : is_wrong false 34 ≡ true = rw q at h in cc

-- A text in quotes that is closed has no fault: what stands where its inside ends is its closing quote.
quoted : (k : TokenKind) (bytes after : List ℕ) (to : Bool) (body tail : List ℕ) → spells k bytes ≡ true → bytes ++ after ≡ 34 ∷ (body ++ tail)
    → inside false (body ++ tail) ≡ record { escape = to; left = tail } → (tail ≡ 34 ∷ after) × (to ≡ false)
quoted k [] after to body tail h w i = absurd (no-empty k h)
quoted k (q ∷ bs) after to body tail h w i =
    let e : q ≡ 34 = cc in
    let v : bs ++ after ≡ body ++ tail = cc in
    let c : is_closed false bs ≡ true = by-quote k bs (rw e at h) in
    let (inner, u, g) = closed-goes false bs c in
    let x : bs ++ after ≡ inner ++ (34 ∷ after) = joined bs inner after u in
    let y : inside false (inner ++ (34 ∷ after)) ≡ record { escape = false; left = 34 ∷ after } = goes-inside false false inner (34 ∷ after) g refl in
    let z : record { escape = to; left = tail } ≡ record { escape = false; left = 34 ∷ after } = sym i ∙ ap (λ l. inside false l) (sym v ∙ x) ∙ y in
    (ap (λ (p : Inside). p.left) z, ap (λ (p : Inside). p.escape) z)

token-wrong : (k : TokenKind) (bytes after : List ℕ) → spells k bytes ≡ true → HasWrong (bytes ++ after) → ⊥
token-wrong k bytes after h (to, body, b, r, w, g, i) =
    let (e, t) = quoted k bytes after to body (b ∷ r) h w (goes-inside false to body (b ∷ r) g (wrong-halts to b r i)) in
    let x : b ≡ 34 = cc in wrong-quote to b x t i

token-open : (k : TokenKind) (bytes after : List ℕ) → spells k bytes ≡ true → IsOpen (bytes ++ after) → ⊥
token-open k bytes after h (to, body, r, w, g, i) =
    let (e, t) = quoted k bytes after to body r h w (goes-inside false to body r g (stops-halts to r i)) in
    let y : stops (34 ∷ after) ≡ true = rw e at i in cc

few-digits : (k : TokenKind) (bytes : List ℕ) → spells k bytes ≡ true → is_short k bytes ≡ true → is_digits bytes ≡ true → 18 < length bytes → ⊥
few-digits k bytes h s d n =
    let e : k ≡ kinds.Number = one-kind k kinds.Number bytes h d in
    let i : nat_le (length bytes) 18 ≡ true = rw e at s in
    let j : length bytes ≤ 18 = at_most (length bytes) i in absurd (omega arith)
  where
    at_most : (n : ℕ) → nat_le n 18 ≡ true → n ≤ 18
    at_most n h = grind (arith, nat_tests)

token-long : (k : TokenKind) (bytes after : List ℕ) → IsToken k bytes after → IsLong (bytes ++ after) → ⊥
token-long k [] after t h = no-empty k t.spelled
token-long k (b ∷ bs) after t ([], r, w, d, e, n) = absurd (cc)
token-long k (b ∷ bs) after t (x ∷ ds, r, w, d, e, n) =
    let q : b ≡ x = cc in
    let i : is_digit b ≡ true = rw q ((and_parts (is_digit x) (list_all is_digit ds) d).0) in
    let j : is_digits (b ∷ bs) ≡ true = by-digit k b bs i t.spelled in
    elim (fronts (b ∷ bs) after (x ∷ ds) r w) [
      | inl (m, u, v) ↦
          let z : m ≡ [] = t.longest kinds.Number m r v (let P : List ℕ → Type 0 = λ l. is_digits l ≡ true in subst P u d) in
          let y : x ∷ ds ≡ b ∷ bs = u ∙ ap (λ l. (b ∷ bs) ++ l) z ∙ append-nil (b ∷ bs) in
          few-digits k (b ∷ bs) t.spelled t.short j (let L : List ℕ → Type 0 = λ l. 18 < length l in subst L y n)
      | inr (m, u, v) ↦ over m u v j
    ]
  where
    over : (m : List ℕ) → b ∷ bs ≡ (x ∷ ds) ++ m → r ≡ m ++ after → is_digits (b ∷ bs) ≡ true → ⊥
    over [] u v j = let y : x ∷ ds ≡ b ∷ bs = sym (u ∙ append-nil (x ∷ ds)) in few-digits k (b ∷ bs) t.spelled t.short j (let L : List ℕ → Type 0 = λ l. 18 < length l in subst L y n)
    over (c ∷ m) u v j =
        let bs_is : bs ≡ ds ++ (c ∷ m) = cc in
        let all : list_all is_digit bs ≡ true = (and_parts (is_digit b) (list_all is_digit bs) j).1 in
        both_ways (is_digit c) (ends-no is_digit r m after c e v) (each-next is_digit ds m c (rw bs_is at all))

pub token-fault : (k : TokenKind) (bytes after : List ℕ) (f : LexFault) (line : ℕ) → IsToken k bytes after → BeginsFault f line (bytes ++ after) → ⊥
token-fault k bytes after (faults.BadByte l) line t (e, inl (b, r, w, h, n)) = n k bytes after refl t.spelled
token-fault k bytes after (faults.BadByte l) line t (e, inr h) = token-wrong k bytes after t.spelled h
token-fault k bytes after (faults.OpenText l) line t (e, h) = token-open k bytes after t.spelled h
token-fault k bytes after (faults.NumberTooLong l) line t (e, h) = token-long k bytes after t h
token-fault k bytes after faults.NoMemory line t h = h

none-open : (left : List ℕ) → BeginsNone left → IsOpen left → ⊥
none-open left (b, r, w, h, n) (to, body, s, v, g, i) = let e : b ≡ 34 = cc in let k : true ≡ false = rw e at h in cc

wrong-open : (left : List ℕ) → HasWrong left → IsOpen left → ⊥
wrong-open left (to, body, b, r, w, g, i) (so, bo, s, v, h, j) =
    let x : body ++ (b ∷ r) ≡ bo ++ s = cc in
    let y : inside false (body ++ (b ∷ r)) ≡ record { escape = to; left = b ∷ r } = goes-inside false to body (b ∷ r) g (wrong-halts to b r i) in
    let z : inside false (bo ++ s) ≡ record { escape = so; left = s } = goes-inside false so bo s h (stops-halts so s j) in
    let u : record { escape = to; left = b ∷ r } ≡ record { escape = so; left = s } = sym y ∙ (rw x z) in
    let t : b ∷ r ≡ s = ap (λ (p : Inside). p.left) u in
    both_ways (is_break b) (no-break to b i) (rw (← t) at j)
  where
    no-break : (e : Bool) (b : ℕ) → is_wrong e b ≡ true → is_break b ≡ false
    no-break true b h = not-true (is_break b) ((and_parts _ _ h).1)
    no-break false b h = not-true (is_break b) ((and_parts _ _ h).1)

quote-long : (left r : List ℕ) → left ≡ 34 ∷ r → IsLong left → ⊥
quote-long left r w h = let (b, s, v, d) = long-head left h in let e : b ≡ 34 = cc in let k : is_digit 34 ≡ true = rw e at d in cc

none-long : (left : List ℕ) → BeginsNone left → IsLong left → ⊥
none-long left (b, r, w, h, n) l =
    let (c, s, v, d) = long-head left l in
    n kinds.Number (c ∷ []) s v (and-one (is_digit c) d)
  where
    and-one : (x : Bool) → x ≡ true → (x && true) ≡ true
    and-one x d = rw d refl

bad-long : (left : List ℕ) → (BeginsNone left ⊎ HasWrong left) → IsLong left → ⊥
bad-long left (inl n) h = none-long left n h
bad-long left (inr (to, body, b, r, w, g, i)) h = quote-long left (body ++ (b ∷ r)) w h

bad-open : (left : List ℕ) → (BeginsNone left ⊎ HasWrong left) → IsOpen left → ⊥
bad-open left (inl n) h = none-open left n h
bad-open left (inr n) h = wrong-open left n h

open-long : (left : List ℕ) → IsOpen left → IsLong left → ⊥
open-long left (to, body, r, w, g, i) h = quote-long left (body ++ r) w h

pub same-fault : (f g : LexFault) (line : ℕ) (left : List ℕ) → BeginsFault f line left → BeginsFault g line left → f ≡ g
same-fault (faults.BadByte l) (faults.BadByte m) line left (e, h) (d, i) = ap faults.BadByte (e ∙ sym d)
same-fault (faults.BadByte l) (faults.OpenText m) line left (e, h) (d, i) = absurd (bad-open left h i)
same-fault (faults.BadByte l) (faults.NumberTooLong m) line left (e, h) (d, i) = absurd (bad-long left h i)
same-fault (faults.OpenText l) (faults.BadByte m) line left (e, h) (d, i) = absurd (bad-open left i h)
same-fault (faults.OpenText l) (faults.OpenText m) line left (e, h) (d, i) = ap faults.OpenText (e ∙ sym d)
same-fault (faults.OpenText l) (faults.NumberTooLong m) line left (e, h) (d, i) = absurd (open-long left h i)
same-fault (faults.NumberTooLong l) (faults.BadByte m) line left (e, h) (d, i) = absurd (bad-long left i h)
same-fault (faults.NumberTooLong l) (faults.OpenText m) line left (e, h) (d, i) = absurd (open-long left i h)
same-fault (faults.NumberTooLong l) (faults.NumberTooLong m) line left (e, h) (d, i) = ap faults.NumberTooLong (e ∙ sym d)
same-fault faults.NoMemory g line left h i = absurd h
same-fault (faults.BadByte l) faults.NoMemory line left h i = absurd i
same-fault (faults.OpenText l) faults.NoMemory line left h i = absurd i
same-fault (faults.NumberTooLong l) faults.NoMemory line left h i = absurd i

end-fault : (f : LexFault) (line : ℕ) (left : List ℕ) → AtEnd line left → AtFault f line left → ⊥
end-fault f line left h (gap, after, w, i, b) = by after (fault-head f (line + lines_in gap) after b) (sym (end-behind left h) ∙ behind-cut left gap after w i (fault-head f (line + lines_in gap) after b))
  where
    by : (after : List ℕ) → no_gap_head after ≡ true → [] ≡ after → ⊥
    by [] h e = cc
    by (x ∷ after) h e = cc

same-ending : (e d : Ending) (line : ℕ) (left : List ℕ) → EndsBy e line left → EndsBy d line left → e ≡ d
same-ending done done line left h i = refl
same-ending done (faulty g) line left h i = absurd (end-fault g line left h i)
same-ending (faulty f) done line left h i = absurd (end-fault f line left i h)
same-ending (faulty f) (faulty g) line left (a, r, w, i, b) (c, s, v, j, d) =
    let (q, t) = same-gap left a c r s w v i j (fault-head f (line + lines_in a) r b) (fault-head g (line + lines_in c) s d) in
    ap faulty (same-fault f g (line + lines_in c) s (rw (q, t) at b) d)

end-lead : (e : Ending) (at line : ℕ) (left : List ℕ) (t : Token) (after : List ℕ) → EndsBy e line left → Leads at line left t after → ⊥
end-lead done at line left t after h l =
    by (l.bytes ++ after) (leads-head at line left t after l) (sym (end-behind left h) ∙ behind-cut left l.gap (l.bytes ++ after) l.cut l.between (leads-head at line left t after l))
  where
    by : (after : List ℕ) → no_gap_head after ≡ true → [] ≡ after → ⊥
    by [] h e = cc
    by (x ∷ after) h e = cc
end-lead (faulty f) at line left t after (gap, r, w, i, b) l =
    let (q, s) = same-gap left gap l.gap r (l.bytes ++ after) w l.cut i l.between (fault-head f (line + lines_in gap) r b) (leads-head at line left t after l) in
    token-fault t.kind l.bytes after f (line + lines_in gap) l.token (rw s at b)

-- The tokens from a place on and the way that they end are the only ones.
pub once : (e d : Ending) (at line : ℕ) (left : List ℕ) (ts us : List Token) → Runs (EndsBy e) at line left ts → Runs (EndsBy d) at line left us → (ts ≡ us) × (e ≡ d)
once e d at line left [] [] h i = (refl, same-ending e d line left h i)
once e d at line left [] (u ∷ us) h (a, l, i) = absurd (end-lead e at line left u a h l)
once e d at line left (t ∷ ts) [] (a, l, i) h = absurd (end-lead d at line left t a h l)
once e d at line left (t ∷ ts) (u ∷ us) (a, l, i) (b, m, j) =
    let (x, y) = same-lead at line left t u a b l m in
    let (p, q) = once e d u.end u.line b ts us (rw (x, y) at i) j in
    (rw (x, p) refl, q)
