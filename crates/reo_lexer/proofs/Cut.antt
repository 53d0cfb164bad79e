-- Tokens by the byte that follows them.
use Rattle.std.proofs.Common.{◌≡◌, ℕ, ◌≤◌, Bool, true, false, ◌&&◌, not, cond, List, [], ◌∷◌, ◌++◌, inl, inr, refl, sym, ◌∙◌, ap, subst, arith, append_assoc, append-nil, ◌==◌, nat_le}
use Rattle.std.proofs.lemmas.Bool.{and_parts, and_from, not-true}
use Rattle.std.specs.List.{list_all}
use Rattle.std.proofs.lemmas.Bool.Decides.{nat_tests}
use Rattle.reo_values.specs.Names.{is_digit, is_letter, is_name_byte, is_name}
use Rattle.reo_grammar.specs.declared.kind.TokenKind.{TokenKind}
use Rattle.reo_grammar.specs.declared.kind.TokenKind.TheVariants as kinds
use Rattle.reo_grammar.specs.Bytes.{is_unescaped, is_escaped, is_empty, one_of}
use Rattle.reo_grammar.specs.Spelling.{spells, is_short, is_closed, reserved, signs}
use Rattle.reo_grammar.proofs.Classes.{or-cases}
use Rattle.reo_lexer.specs.Gaps.{is_no_lf}
use Rattle.reo_lexer.specs.Faults.{ends}
use Rattle.reo_lexer.specs.Lexing.{IsToken}
use Rattle.reo_lexer.proofs.Spelled.{one_of-passes, name-longest, number-longest, text-longest, reserved-spelled, yes-not, never, letter-parts, digit-parts, quote-part, Longest}
use Rattle.reo_lexer.proofs.Signs.{two-longest, one-longest, last-longest, too-long}
use Rattle.reo_lexer.proofs.Fronts.{fronts}

-- The next byte does not go on with a token of these bytes.
abbrev pub is_cut : TokenKind → List ℕ → List ℕ → Bool
is_cut k bytes [] = true
is_cut kinds.Name bytes (b ∷ r) = not (is_name_byte b)
is_cut kinds.Word bytes (b ∷ r) = not (is_name_byte b)
is_cut kinds.Number bytes (b ∷ r) = not (is_digit b)
is_cut kinds.Text bytes (b ∷ r) = true
is_cut kinds.Sign bytes (b ∷ r) = not (one_of (bytes ++ b ∷ []) signs)

name-cut : (k : TokenKind) (bytes rest : List ℕ) → is_name bytes ≡ true → ends is_name_byte rest ≡ true → Longest bytes rest
name-cut k [] rest h e = absurd (cc)
name-cut k (b ∷ bs) rest h e = name-longest b bs rest ((and_parts (is_letter b) (list_all is_name_byte bs) h).0) e

sign-cut : (bytes rest : List ℕ) → one_of bytes signs ≡ true → is_cut kinds.Sign bytes rest ≡ true → Longest bytes rest
sign-cut [] rest h e = absurd (cc)
sign-cut (a ∷ []) [] h e = last-longest a
sign-cut (a ∷ []) (b ∷ r) h e = one-longest a b r h (not-true (one_of (a ∷ b ∷ []) signs) e)
sign-cut (a ∷ b ∷ []) rest h e = two-longest a b rest h
sign-cut (a ∷ b ∷ c ∷ m) rest h e = absurd (too-long a b c m h)

-- Bytes that are spelled as a token, before a byte that does not go on with it, are that token.
pub cut-token : (k : TokenKind) (bytes rest : List ℕ) → spells k bytes ≡ true → is_short k bytes ≡ true → is_cut k bytes rest ≡ true → IsToken k bytes rest
cut-token kinds.Name bytes rest h s e =
    record { spelled = h; short = s; longest = name-cut kinds.Name bytes rest ((and_parts (is_name bytes) (not (one_of bytes reserved)) h).0) (by rest e) }
  where
    by : (rest : List ℕ) → is_cut kinds.Name bytes rest ≡ true → ends is_name_byte rest ≡ true
    by [] e = refl
    by (b ∷ r) e = e
cut-token kinds.Word bytes rest h s e =
    record { spelled = h; short = s; longest = name-cut kinds.Word bytes rest (reserved-spelled bytes h) (by rest e) }
  where
    by : (rest : List ℕ) → is_cut kinds.Word bytes rest ≡ true → ends is_name_byte rest ≡ true
    by [] e = refl
    by (b ∷ r) e = e
cut-token kinds.Number [] rest h s e = absurd (cc)
cut-token kinds.Number (b ∷ bs) rest h s e =
    record { spelled = h; short = s; longest = number-longest b bs rest ((and_parts (is_digit b) (list_all is_digit bs) h).0) (by rest e) }
  where
    by : (rest : List ℕ) → is_cut kinds.Number (b ∷ bs) rest ≡ true → ends is_digit rest ≡ true
    by [] e = refl
    by (c ∷ r) e = e
cut-token kinds.Text [] rest h s e = absurd (cc)
cut-token kinds.Text (q ∷ bs) rest h s e =
    let w : q ≡ 34 = quote-part q ((and_parts (q == 34) (is_closed false bs) h).0) in
    record { spelled = h; short = s; longest = rw w (text-longest bs rest ((and_parts (q == 34) (is_closed false bs) h).1)) }
cut-token kinds.Sign bytes rest h s e = record { spelled = h; short = s; longest = sign-cut bytes rest h e }

-- No token holds an LF.
each-other : (p q : ℕ → Bool) → ((b : ℕ) → p b ≡ true → q b ≡ true) → (bs : List ℕ) → list_all p bs ≡ true → list_all q bs ≡ true
each-other p q f [] h = refl
each-other p q f (b ∷ bs) h = and_from (q b) (list_all q bs) (f b ((and_parts (p b) (list_all p bs) h).0)) (each-other p q f bs ((and_parts (p b) (list_all p bs) h).1))

high-no-lf : (b : ℕ) → 32 ≤ b → is_no_lf b ≡ true
high-no-lf b h = yes-not (b == 10) (never (b == 10) (λ e. let n : b ≡ 10 = grind (arith, nat_tests) in absurd (omega arith)))

letter-no-lf : (b : ℕ) → is_letter b ≡ true → is_no_lf b ≡ true
letter-no-lf b h = let l = letter-parts b h in high-no-lf b (omega arith)

digit-no-lf : (b : ℕ) → is_digit b ≡ true → is_no_lf b ≡ true
digit-no-lf b h = let l = digit-parts b h in high-no-lf b (omega arith)

name-no-lf : (b : ℕ) → is_name_byte b ≡ true → is_no_lf b ≡ true
name-no-lf b h = or-cases (is_letter b) (is_digit b) h (letter-no-lf b) (digit-no-lf b)

unescaped-no-lf : (b : ℕ) → is_unescaped b ≡ true → is_no_lf b ≡ true
unescaped-no-lf b h =
    let k : nat_le 32 b ≡ true = (and_parts (nat_le 32 b) (nat_le b 126) ((and_parts (nat_le 32 b && nat_le b 126) (not (b == 34) && not (b == 92)) h).0)).0 in
    let l : 32 ≤ b = grind (arith, nat_tests) in high-no-lf b l

escaped-no-lf : (b : ℕ) → is_escaped b ≡ true → is_no_lf b ≡ true
escaped-no-lf b h = or-cases (b == 34) (b == 92) h
    (λ e. let n : b ≡ 34 = grind (arith, nat_tests) in high-no-lf b (omega arith))
    (λ e. let n : b ≡ 92 = grind (arith, nat_tests) in high-no-lf b (omega arith))

closed-no-lf : (e : Bool) (bs : List ℕ) → is_closed e bs ≡ true → list_all is_no_lf bs ≡ true
closed-no-lf e [] h = refl
closed-no-lf true (b ∷ bs) h =
    and_from (is_no_lf b) (list_all is_no_lf bs) (escaped-no-lf b ((and_parts (is_escaped b) (is_closed false bs) h).0)) (closed-no-lf false bs ((and_parts (is_escaped b) (is_closed false bs) h).1))
closed-no-lf false (b ∷ bs) h = by (b == 34) (b == 92) refl refl h (λ k. closed-no-lf true bs k) (λ k. closed-no-lf false bs k)
  where
    empty-each : (l : List ℕ) → is_empty l ≡ true → list_all is_no_lf l ≡ true
    empty-each [] h = refl
    empty-each (x ∷ l) h = absurd (cc)

    by : (x y : Bool) → (b == 34) ≡ x → (b == 92) ≡ y → cond x (is_empty bs) (cond y (is_closed true bs) (is_unescaped b && is_closed false bs)) ≡ true
        → (is_closed true bs ≡ true → list_all is_no_lf bs ≡ true) → (is_closed false bs ≡ true → list_all is_no_lf bs ≡ true) → (is_no_lf b && list_all is_no_lf bs) ≡ true
    by true y p q k i j = let n : b ≡ 34 = grind (arith, nat_tests) in and_from (is_no_lf b) (list_all is_no_lf bs) (high-no-lf b (omega arith)) (empty-each bs k)
    by false true p q k i j = let n : b ≡ 92 = grind (arith, nat_tests) in and_from (is_no_lf b) (list_all is_no_lf bs) (high-no-lf b (omega arith)) (i k)
    by false false p q k i j =
        and_from (is_no_lf b) (list_all is_no_lf bs) (unescaped-no-lf b ((and_parts (is_unescaped b) (is_closed false bs) k).0)) (j ((and_parts (is_unescaped b) (is_closed false bs) k).1))

spelled-no-lf : (bs : List ℕ) → is_name bs ≡ true → list_all is_no_lf bs ≡ true
spelled-no-lf [] h = refl
spelled-no-lf (b ∷ bs) h =
    and_from (is_no_lf b) (list_all is_no_lf bs) (letter-no-lf b ((and_parts (is_letter b) (list_all is_name_byte bs) h).0)) (each-other is_name_byte is_no_lf name-no-lf bs ((and_parts (is_letter b) (list_all is_name_byte bs) h).1))

pub token-no-lf : (k : TokenKind) (bs : List ℕ) → spells k bs ≡ true → list_all is_no_lf bs ≡ true
token-no-lf kinds.Name bs h = spelled-no-lf bs ((and_parts (is_name bs) (not (one_of bs reserved)) h).0)
token-no-lf kinds.Word bs h = spelled-no-lf bs (reserved-spelled bs h)
token-no-lf kinds.Number [] h = refl
token-no-lf kinds.Number (b ∷ bs) h =
    and_from (is_no_lf b) (list_all is_no_lf bs) (digit-no-lf b ((and_parts (is_digit b) (list_all is_digit bs) h).0)) (each-other is_digit is_no_lf digit-no-lf bs ((and_parts (is_digit b) (list_all is_digit bs) h).1))
token-no-lf kinds.Text [] h = refl
token-no-lf kinds.Text (q ∷ bs) h =
    let n : q ≡ 34 = quote-part q ((and_parts (q == 34) (is_closed false bs) h).0) in
    and_from (is_no_lf q) (list_all is_no_lf bs) (high-no-lf q (omega arith)) (closed-no-lf false bs ((and_parts (q == 34) (is_closed false bs) h).1))
token-no-lf kinds.Sign bs h = one_of-passes (list_all is_no_lf) bs signs refl h

has-lf : (a m : List ℕ) → list_all is_no_lf (a ++ (10 ∷ m)) ≡ true → ⊥
has-lf [] m h = cc
has-lf (x ∷ a) m h = has-lf a m ((and_parts (is_no_lf x) (list_all is_no_lf (a ++ (10 ∷ m))) h).1)

-- An LF goes on with no token.
pub lf-cut : (k : TokenKind) (bytes r : List ℕ) → spells k bytes ≡ true → is_cut k bytes (10 ∷ r) ≡ true
lf-cut kinds.Name bytes r h = refl
lf-cut kinds.Word bytes r h = refl
lf-cut kinds.Number bytes r h = refl
lf-cut kinds.Text bytes r h = refl
lf-cut kinds.Sign bytes r h = yes-not (one_of (bytes ++ 10 ∷ []) signs) (never (one_of (bytes ++ 10 ∷ []) signs) (λ e. has-lf bytes [] (token-no-lf kinds.Sign (bytes ++ 10 ∷ []) e)))

-- A token stays one where less follows, and where an LF follows at the end.
pub token-shorter : (k : TokenKind) (bytes rest more : List ℕ) → IsToken k bytes (rest ++ more) → IsToken k bytes rest
token-shorter k bytes rest more t =
    record { spelled = t.spelled; short = t.short; longest = λ l m after w s. t.longest l m (after ++ more) (ap (λ x. x ++ more) w ∙ append_assoc m after more) s }

pub token-longer : (k : TokenKind) (bytes rest more : List ℕ) → IsToken k bytes rest → IsToken k bytes (rest ++ (10 ∷ more))
token-longer k bytes rest more t = record { spelled = t.spelled; short = t.short; longest = longer }
  where
    longer : Longest bytes (rest ++ (10 ∷ more))
    longer l m after w s =
        elim (fronts m after rest (10 ∷ more) (sym w)) [
          | inl (x, q, r) ↦ t.longest l m x q s
          | inr (x, q, r) ↦ over x q r
        ]
      where
        over : (x : List ℕ) → m ≡ rest ++ x → 10 ∷ more ≡ x ++ after → m ≡ []
        over [] q r = let e : rest ≡ m ++ [] = sym (append-nil rest) ∙ sym q ∙ sym (append-nil m) in t.longest l m [] e s
        over (y ∷ x) q r =
            let e : y ≡ 10 = cc in
            let f : bytes ++ m ≡ (bytes ++ rest) ++ (10 ∷ x) = ap (λ z. bytes ++ z) (q ∙ ap (λ z. rest ++ (z ∷ x)) e) ∙ sym (append_assoc bytes rest (10 ∷ x)) in
            let n : list_all is_no_lf (bytes ++ m) ≡ true = token-no-lf l (bytes ++ m) s in
            absurd (has-lf (bytes ++ rest) x (let P : List ℕ → Type 0 = λ z. list_all is_no_lf z ≡ true in subst P f n))
