-- A text has tokens or a fault.
use Rattle.std.proofs.Common.{◌≡◌, ℕ, zero, suc, ◌+◌, ◌≤◌, ◌<◌, ◌==◌, Bool, true, false, List, [], ◌∷◌, ◌++◌, length, take, drop, get_or, refl, sym, ◌∙◌, ap, subst, arith, inl, inr, ◌⊎◌, append-nil, length-append, length-drop, drop-cons}
use Rattle.std.proofs.Math.Nat.{eq-or-lt_of_le}
use Rattle.std.proofs.lemmas.Bool.Decides.{nat_tests}
use Rattle.std.proofs.lemmas.List.{take-append-drop}
use Rattle.std.specs.List.{take_while}
use Rattle.reo_values.specs.Names.{is_digit, is_letter, is_name_byte}
use Rattle.reo_grammar.specs.declared.kind.TokenKind.{TokenKind}
use Rattle.reo_grammar.specs.declared.kind.TokenKind.TheVariants as kinds
use Rattle.reo_grammar.specs.Bytes.{one_of}
use Rattle.reo_grammar.specs.Spelling.{reserved, spells}
use Rattle.reo_lexer.specs.declared.token.Token.{Token}
use Rattle.reo_lexer.specs.declared.token.LexFault.{LexFault}
use Rattle.reo_lexer.specs.declared.token.LexFault.TheVariants as faults
use Rattle.reo_lexer.specs.Gaps.{is_space, IsGap, lines_in}
use Rattle.reo_lexer.specs.Lexing.{Leads, Runs, AtEnd, IsTokens}
use Rattle.reo_lexer.specs.Faults.{is_break, stops, BeginsFault, AtFault, IsFault}
use Rattle.reo_lexer.specs.Skipping.{behind, inside, sign_size, IsFront}
use Rattle.reo_lexer.proofs.Skipped.{behind-gap, behind-end}
use Rattle.reo_lexer.proofs.Quotes.{inside-goes}
use Rattle.reo_lexer.proofs.Fronts.{drop-cut}
use Rattle.reo_lexer.proofs.Spelled.{no-empty}
use Rattle.reo_lexer.proofs.Next.{behind-stops}
use Rattle.reo_lexer.proofs.Found.{word_front, name_front, number-front, number-long, sign-front, none-front, text-front, text-open, text-wrong}

-- What stands in front: a token, or a fault.
abbrev Front : ℕ → List ℕ → Type 0
Front line left = ((k : TokenKind) × (n : ℕ) × IsFront k n left) ⊎ ((f : LexFault) × BeginsFault f line left)

by_letter : (line : ℕ) (left : List ℕ) → is_letter (get_or left 0 0) ≡ true → (b : Bool) → one_of (take (length (take_while is_name_byte left)) left) reserved ≡ b → Front line left
by_letter line left l true e = inl (kinds.Word, length (take_while is_name_byte left), word_front left (length (take_while is_name_byte left)) l refl e)
by_letter line left l false e = inl (kinds.Name, length (take_while is_name_byte left), name_front left (length (take_while is_name_byte left)) l refl e)

le_or_lt : (n m : ℕ) → (n ≤ m) ⊎ (m < n)
le_or_lt zero m = inl (omega arith)
le_or_lt (suc n) zero = inr (omega arith)
le_or_lt (suc n) (suc m) = elim (le_or_lt n m) [ inl h ↦ inl (omega arith) | inr h ↦ inr (omega arith) ]

by_digit : (line : ℕ) (left : List ℕ) → is_digit (get_or left 0 0) ≡ true → (n : ℕ) → n ≡ length (take_while is_digit left) → Front line left
by_digit line left d n e = elim (le_or_lt n 18) [
  | inl few ↦ inl (kinds.Number, n, number-front left n d e few)
  | inr long ↦ inr (faults.NumberTooLong line, (refl, number-long left n d e long))
]

-- A text in quotes, by where its inside ends.
module _ (line : ℕ) (r : List ℕ) (e : Bool) (m : ℕ) (i : inside false r ≡ record { escape = e; left = drop m r }) where
  whole : m < length r → is_break (get_or r m 0) ≡ false → (b q : Bool) → e ≡ b → (get_or r m 0 == 34) ≡ q → Front line (34 ∷ r)
  whole more no_break true q x y = inr (faults.BadByte line, (refl, inr (text-wrong r e m i more no_break (λ z. absurd (let k = sym x ∙ z in cc)))))
  whole more no_break false true x y =
      let quote : get_or r m 0 ≡ 34 = grind (arith, nat_tests) in
      inl (kinds.Text, m + 2, text-front r m (i ∙ ap (λ (b : Bool). record { escape = b; left = drop m r }) x) more quote)
  whole more no_break false false x y = inr (faults.BadByte line, (refl, inr (text-wrong r e m i more no_break (λ z. y))))

  before : m < length r → (b : Bool) → is_break (get_or r m 0) ≡ b → Front line (34 ∷ r)
  before more true x = inr (faults.OpenText line, (refl, text-open r e m i (rw (drop-cons r m 0 more) x)))
  before more false x = whole more x e (get_or r m 0 == 34) refl refl

  ended : m ≤ length r → Front line (34 ∷ r)
  ended within = elim (eq-or-lt_of_le within) [
    | inl all ↦ inr (faults.OpenText line, (refl, text-open r e m i (none r m all)))
    | inr more ↦ before more (is_break (get_or r m 0)) refl
  ]
    where
      none : (r : List ℕ) (m : ℕ) → m ≡ length r → stops (drop m r) ≡ true
      none [] zero h = refl
      none [] (suc m) h = absurd (omega arith)
      none (x ∷ r) zero h = absurd (omega arith)
      none (x ∷ r) (suc m) h = none r m (omega arith)

by_quote : (line : ℕ) (r : List ℕ) → Front line (34 ∷ r)
by_quote line r =
    let (body, cut, goes, halted) = inside-goes false r in
    let e = (inside false r).escape in
    let left = (inside false r).left in
    ended line r e (length body) (λ j. record { escape = e; left = sym (drop-cut r body left (length body) cut refl) j }) (omega (arith, ap length cut, length-append body left))

by_sign : (line a : ℕ) (r : List ℕ) → is_letter a ≡ false → is_digit a ≡ false → (a == 34) ≡ false → is_space a ≡ false → (a == 35) ≡ false
    → (n : ℕ) → sign_size (a ∷ r) ≡ n → Front line (a ∷ r)
by_sign line a r l d q s c zero e = inr (faults.BadByte line, (refl, inl (none-front (a ∷ r) (omega arith) l d q s c e)))
by_sign line a r l d q s c (suc n) e = inl (kinds.Sign, suc n, sign-front (a ∷ r) (suc n) (sym e) (omega arith))

front : (line a : ℕ) (r : List ℕ) → is_space a ≡ false → (a == 35) ≡ false → (l d q : Bool) → is_letter a ≡ l → is_digit a ≡ d → (a == 34) ≡ q → Front line (a ∷ r)
front line a r s c true d q x y z = by_letter line (a ∷ r) x (one_of (take (length (take_while is_name_byte (a ∷ r))) (a ∷ r)) reserved) refl
front line a r s c false true q x y z = by_digit line (a ∷ r) y (length (take_while is_digit (a ∷ r))) refl
front line a r s c false false true x y z = let quote : a ≡ 34 = grind (arith, nat_tests) in subst (λ b. Front line (b ∷ r)) (sym quote) (by_quote line r)
front line a r s c false false false x y z = by_sign line a r x y z s c (sign_size (a ∷ r)) refl

-- From a place on: tokens up to the end, or up to a fault.
abbrev Answer : ℕ → ℕ → List ℕ → Type 0
Answer at line left = ((ts : List Token) × Runs AtEnd at line left ts) ⊎ ((f : LexFault) × ((ts : List Token) × Runs (AtFault f) at line left ts))

-- A gap, and behind it a token.
module _ (at line : ℕ) (left gap : List ℕ) (b : ℕ) (r : List ℕ) (cut : left ≡ gap ++ (b ∷ r)) (between : IsGap gap) (k : TokenKind) (n : ℕ) (found : IsFront k n (b ∷ r)) where
  abbrev token : Token
  token = record { kind = k; start = at + length gap; end = at + length gap + length (take n (b ∷ r)); line = line + lines_in gap }

  leads : Leads at line left token (drop n (b ∷ r))
  leads = record {
    gap = gap;
    bytes = take n (b ∷ r);
    cut = cut ∙ ap (λ l. gap ++ l) (sym (take-append-drop n (b ∷ r)));
    between = between;
    token = found.1;
    start = refl;
    end = refl;
    line = refl;
  }

  some : (n : ℕ) → spells k (take n (b ∷ r)) ≡ true → 0 < n
  some zero s = absurd (no-empty k s)
  some (suc n) s = omega arith

  shorter : length (drop n (b ∷ r)) < length left
  shorter =
      let more : 0 < n = some n found.1.spelled in
      omega (arith, length-drop n (b ∷ r), ap length cut, length-append gap (b ∷ r))

  with_token : Answer token.end token.line (drop n (b ∷ r)) → Answer at line left
  with_token (inl (ts, runs)) = inl (token ∷ ts, (drop n (b ∷ r), leads, runs))
  with_token (inr (f, (ts, runs))) = inr (f, (token ∷ ts, (drop n (b ∷ r), leads, runs)))

-- Behind a gap: the end, or a fault, or a token with less behind it.
step : (at line : ℕ) (left : List ℕ) → ((at line : ℕ) (rest : List ℕ) → length rest < length left → Answer at line rest) → (rest : List ℕ) → behind false left ≡ rest → Answer at line left
step at line left next [] e = let (gap, between, w) = behind-end false left e in inl ([], subst IsGap (sym (w ∙ append-nil gap)) between)
step at line left next (b ∷ r) e =
    let (gap, between, w) = behind-gap false left b r e in
    let (no_space, no_comment) = behind-stops false left b r e in
    elim (front (line + lines_in gap) b r no_space no_comment (is_letter b) (is_digit b) (b == 34) refl refl refl) [
      | inl (k, n, found) ↦ with_token at line left gap b r w between k n found
          (next (token at line left gap b r w between k n found).end (line + lines_in gap) (drop n (b ∷ r)) (shorter at line left gap b r w between k n found))
      | inr (f, begins) ↦ inr (f, ([], (gap, b ∷ r, w, between, begins)))
    ]

answer : (most at line : ℕ) (left : List ℕ) → length left ≤ most → Answer at line left
answer zero at line left few = step at line left (λ a l rest less. absurd (omega arith)) (behind false left) refl
answer (suc most) at line left few = step at line left (λ a l rest less. answer most a l rest (omega arith)) (behind false left) refl

pub tokens_or_fault : (text : List ℕ) → ((ts : List Token) × IsTokens text ts) ⊎ ((f : LexFault) × IsFault text f)
tokens_or_fault text = answer (length text) 0 1 text (omega arith)
