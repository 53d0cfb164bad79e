-- The token or the fault in front.
use Rattle.std.proofs.Common.{◌≡◌, ℕ, zero, suc, ◌+◌, ◌-◌, ◌≤◌, ◌<◌, Bool, true, false, ◌&&◌, ◌||◌, not, cond, List, [], ◌∷◌, ◌++◌, length, take, drop, get_or, refl, sym, ◌∙◌, ap, subst, arith, append_assoc, length-append, length-drop, drop-cons, ◌==◌, nat_le}
use Rattle.std.proofs.lemmas.Bool.Decides.{nat_tests}
use Rattle.std.specs.List.{list_all, take_while}
use Rattle.std.proofs.lemmas.List.Sums.{take_while-cons}
use Rattle.reo_values.specs.Names.{is_digit, is_letter, is_name_byte, is_name}
use Rattle.reo_grammar.specs.declared.kind.TokenKind.{TokenKind}
use Rattle.reo_grammar.specs.declared.kind.TokenKind.TheVariants as kinds
use Rattle.reo_grammar.specs.Bytes.{is_unescaped, is_escaped, one_of}
use Rattle.reo_grammar.specs.Spelling.{spells, is_short, is_closed, reserved, signs}
use Rattle.std.proofs.lemmas.Bool.{and_from, or_left}
use Rattle.reo_lexer.specs.Gaps.{is_space}
use Rattle.reo_lexer.specs.Lexing.{IsToken}
use Rattle.reo_lexer.specs.Faults.{stops, is_break, is_wrong, BeginsNone, HasWrong, IsOpen, IsLong}
use Rattle.reo_lexer.specs.Skipping.{inside, sign_size, IsFront}
use Rattle.reo_lexer.proofs.Quotes.{inside-goes, goes-closed, is_more}
use Rattle.reo_lexer.proofs.Spelled.{name-longest, number-longest, text-longest, yes-not}
use Rattle.reo_lexer.proofs.Signs.{sign-token, none-spelled}
use Rattle.reo_lexer.proofs.Fronts.{past, take-cut, drop-cut, run-past}

-- A front by its bytes and what is behind them.
front-of : (k : TokenKind) (left bytes after : List ℕ) (n : ℕ) → left ≡ bytes ++ after → n ≡ length bytes → IsToken k bytes after → IsFront k n left
front-of k left bytes after n w e t =
    let p : take n left ≡ bytes = take-cut left bytes after n w e in
    let q : drop n left ≡ after = drop-cut left bytes after n w e in
    (omega (arith, ap length w, length-append bytes after), rw (p, q) t)

run-cons : (p : ℕ → Bool) (b : ℕ) (r : List ℕ) → p b ≡ true → take_while p (b ∷ r) ≡ b ∷ take_while p r
run-cons p b r h = rw (take_while-cons, h) refl

past-cons : (p : ℕ → Bool) (b : ℕ) (r : List ℕ) → p b ≡ true → past p (b ∷ r) ≡ past p r
past-cons p b r h = rw h refl

name-kind : (k : TokenKind) (left : List ℕ) (n : ℕ) → is_letter (get_or left 0 0) ≡ true → n ≡ length (take_while is_name_byte left)
    → ((b : ℕ) (bs : List ℕ) → is_name (b ∷ bs) ≡ true → take n left ≡ b ∷ bs → (spells k (b ∷ bs) ≡ true) × (is_short k (b ∷ bs) ≡ true)) → IsFront k n left
name-kind k [] n l e f = absurd (cc)
name-kind k (b ∷ r) n l e f =
    let i : is_name_byte b ≡ true = or_left (is_letter b) (is_digit b) l in
    let c : take_while is_name_byte (b ∷ r) ≡ b ∷ take_while is_name_byte r = run-cons is_name_byte b r i in
    let (w, a, h) = run-past is_name_byte r in
    let v : b ∷ r ≡ (b ∷ take_while is_name_byte r) ++ past is_name_byte r = ap (λ l. b ∷ l) w in
    let m : n ≡ length (b ∷ take_while is_name_byte r) = e ∙ ap length c in
    let t : take n (b ∷ r) ≡ b ∷ take_while is_name_byte r = take-cut (b ∷ r) (b ∷ take_while is_name_byte r) (past is_name_byte r) n v m in
    let s = f b (take_while is_name_byte r) (and_from (is_letter b) (list_all is_name_byte (take_while is_name_byte r)) l a) t in
    front-of k (b ∷ r) (b ∷ take_while is_name_byte r) (past is_name_byte r) n v m
    (record { spelled = s.0; short = s.1; longest = name-longest b (take_while is_name_byte r) (past is_name_byte r) l h })

-- Letters, digits and `_` in front are a reserved word or a name.
pub word_front : (left : List ℕ) (n : ℕ) → is_letter (get_or left 0 0) ≡ true → n ≡ length (take_while is_name_byte left) → one_of (take n left) reserved ≡ true → IsFront kinds.Word n left
word_front left n l e h = name-kind kinds.Word left n l e (λ b bs s t. (rw t at h, refl))

pub name_front : (left : List ℕ) (n : ℕ) → is_letter (get_or left 0 0) ≡ true → n ≡ length (take_while is_name_byte left) → one_of (take n left) reserved ≡ false → IsFront kinds.Name n left
name_front left n l e h = name-kind kinds.Name left n l e
    (λ b bs s t. (and_from (is_name (b ∷ bs)) (not (one_of (b ∷ bs) reserved)) s (yes-not (one_of (b ∷ bs) reserved) (rw t at h)), refl))

-- Digits in front are a number where they are at most 18, and a fault otherwise.
pub number-front : (left : List ℕ) (n : ℕ) → is_digit (get_or left 0 0) ≡ true → n ≡ length (take_while is_digit left) → n ≤ 18 → IsFront kinds.Number n left
number-front [] n l e f = absurd (cc)
number-front (b ∷ r) n l e f =
    let c : take_while is_digit (b ∷ r) ≡ b ∷ take_while is_digit r = run-cons is_digit b r l in
    let (w, a, h) = run-past is_digit r in
    let v : b ∷ r ≡ (b ∷ take_while is_digit r) ++ past is_digit r = ap (λ l. b ∷ l) w in
    let m : n ≡ length (b ∷ take_while is_digit r) = e ∙ ap length c in
    front-of kinds.Number (b ∷ r) (b ∷ take_while is_digit r) (past is_digit r) n v m
    (record { spelled = and_from (is_digit b) (list_all is_digit (take_while is_digit r)) l a; short = few (length (b ∷ take_while is_digit r)) (omega arith); longest = number-longest b (take_while is_digit r) (past is_digit r) l h })
  where
    few : (n : ℕ) → n ≤ 18 → nat_le n 18 ≡ true
    few n h = grind (arith, nat_tests)

pub number-long : (left : List ℕ) (n : ℕ) → is_digit (get_or left 0 0) ≡ true → n ≡ length (take_while is_digit left) → 18 < n → IsLong left
number-long [] n l e f = absurd (cc)
number-long (b ∷ r) n l e f =
    let c : take_while is_digit (b ∷ r) ≡ b ∷ take_while is_digit r = run-cons is_digit b r l in
    let (w, a, h) = run-past is_digit r in
    let m : n ≡ length (b ∷ take_while is_digit r) = e ∙ ap length c in
    (b ∷ take_while is_digit r, past is_digit r, ap (λ l. b ∷ l) w, and_from (is_digit b) (list_all is_digit (take_while is_digit r)) l a, h, omega arith)

-- A sign in front, or a byte that begins nothing.
pub sign-front : (left : List ℕ) (n : ℕ) → n ≡ sign_size left → 0 < n → IsFront kinds.Sign n left
sign-front [] n e h = absurd (omega arith)
sign-front (a ∷ r) n e h = (few a r n e, sign-token a r n (sym e) h)
  where
    few : (a : ℕ) (r : List ℕ) (n : ℕ) → n ≡ sign_size (a ∷ r) → n ≤ length (a ∷ r)
    few a [] n e = by (one_of (a ∷ []) (signs)) e
      where
        by : (x : Bool) → n ≡ cond x 1 0 → n ≤ 1
        by true e = omega arith
        by false e = omega arith
    few a (b ∷ r) n e = by (one_of (a ∷ b ∷ []) signs) (one_of (a ∷ []) signs) e
      where
        by : (x y : Bool) → n ≡ cond x 2 (cond y 1 0) → n ≤ length (a ∷ b ∷ r)
        by true y e = omega arith
        by false true e = omega arith
        by false false e = omega arith

pub none-front : (left : List ℕ) → 0 < length left → is_letter (get_or left 0 0) ≡ false → is_digit (get_or left 0 0) ≡ false → (get_or left 0 0 == 34) ≡ false
    → is_space (get_or left 0 0) ≡ false → (get_or left 0 0 == 35) ≡ false → sign_size left ≡ 0 → BeginsNone left
none-front [] p l d q s h e = absurd (omega arith)
none-front (a ∷ r) p l d q s h e = (a, r, refl, rw (s, h, q) refl, none-spelled a r l d q e)

-- A text in quotes by where its inside ends.
pub text-front : (r : List ℕ) (m : ℕ) → inside false r ≡ record { escape = false; left = drop m r } → m < length r → get_or r m 0 ≡ 34 → IsFront kinds.Text (m + 2) (34 ∷ r)
text-front r m i h q =
    let (body, w, g, x) = rw i at (inside-goes false r) in
    let c : drop m r ≡ 34 ∷ drop (suc m) r = rw (drop-cons r m 0, q) refl in
    let v : r ≡ (body ++ 34 ∷ []) ++ drop (suc m) r = w ∙ ap (λ l. body ++ l) c ∙ sym (append_assoc body (34 ∷ []) (drop (suc m) r)) in
    let k : is_closed false (body ++ 34 ∷ []) ≡ true = goes-closed false false body (34 ∷ []) g in
    let n : length body ≡ m = omega (arith, ap length w, length-append body (drop m r), length-drop m r) in
    front-of kinds.Text (34 ∷ r) (34 ∷ (body ++ 34 ∷ [])) (drop (suc m) r) (m + 2) (ap (λ l. 34 ∷ l) v) (omega (arith, length-append body (34 ∷ [])))
    (record { spelled = k; short = refl; longest = text-longest (body ++ 34 ∷ []) (drop (suc m) r) k })

pub text-open : (r : List ℕ) (e : Bool) (m : ℕ) → inside false r ≡ record { escape = e; left = drop m r } → stops (drop m r) ≡ true → IsOpen (34 ∷ r)
text-open r e m i s = let (body, w, g, x) = rw i at (inside-goes false r) in (e, body, drop m r, ap (λ l. 34 ∷ l) w, g, s)

pub text-wrong : (r : List ℕ) (e : Bool) (m : ℕ) → inside false r ≡ record { escape = e; left = drop m r } → m < length r → is_break (get_or r m 0) ≡ false
    → (e ≡ false → (get_or r m 0 == 34) ≡ false) → HasWrong (34 ∷ r)
text-wrong r e m i h b q =
    let (body, w, g, x) = rw i at (inside-goes false r) in
    let c : drop m r ≡ get_or r m 0 ∷ drop (suc m) r = drop-cons r m 0 h in
    (e, body, get_or r m 0, drop (suc m) r, ap (λ l. 34 ∷ l) (w ∙ ap (λ l. body ++ l) c), g, wrong e (get_or r m 0) (rw c at x) b q)
  where
    wrong : (e : Bool) (x : ℕ) → not (is_more e x) ≡ true → is_break x ≡ false → (e ≡ false → (x == 34) ≡ false) → is_wrong e x ≡ true
    wrong true x h b q = and_from (not (is_escaped x)) (not (is_break x)) h (yes-not (is_break x) b)
    wrong false x h b q = by (is_unescaped x) (x == 92) (x == 34) (is_break x) h b (q refl)
      where
        by : (p y z k : Bool) → not (y || p) ≡ true → k ≡ false → z ≡ false → ((not p && not (z || y)) && not k) ≡ true
        by p true z k h b q = absurd (cc)
        by true false z k h b q = absurd (cc)
        by false false z true h b q = absurd (cc)
        by false false true k h b q = absurd (cc)
        by false false false false h b q = refl

pub take-all : (n : ℕ) (l : List ℕ) → length l ≤ n → take n l ≡ l
take-all zero [] h = refl
take-all (suc n) [] h = refl
take-all zero (x ∷ l) h = absurd (omega arith)
take-all (suc n) (x ∷ l) h = ap (λ r. x ∷ r) (take-all n l (omega arith))

-- All but the first byte, as code takes it.
abbrev pub tail : List ℕ → List ℕ
tail l = take (length l - 1) (drop 1 l)

-- The same by the whole text in quotes, whose inside begins behind its first byte.
module _ (left : List ℕ) (some : 0 < length left) (quote : get_or left 0 0 ≡ 34) (e : Bool) (m : ℕ) (i : inside false (tail left) ≡ record { escape = e; left = drop m (tail left) }) where
  whole : left ≡ 34 ∷ tail left
  whole = by left some quote
    where
      by : (l : List ℕ) → 0 < length l → get_or l 0 0 ≡ 34 → l ≡ 34 ∷ tail l
      by [] h q = absurd (omega arith)
      by (x ∷ l) h q = let n : length l ≤ length (x ∷ l) - 1 = omega arith in let e : tail (x ∷ l) ≡ l = take-all (length (x ∷ l) - 1) l n in let f : x ≡ 34 = q in rw (f, e) refl

  pub closed-at : e ≡ false → m < length (tail left) → get_or (tail left) m 0 ≡ 34 → IsFront kinds.Text (m + 2) left
  closed-at f h q =
      let j : inside false (tail left) ≡ record { escape = false; left = drop m (tail left) } = i ∙ ap (λ (b : Bool). record { escape = b; left = drop m (tail left) }) f in
      let P : List ℕ → Type 0 = λ l. IsFront kinds.Text (m + 2) l in
      subst P (sym whole) (text-front (tail left) m j h q)

  pub end-at : m ≡ length (tail left) → IsOpen left
  end-at h =
      let s : stops (drop m (tail left)) ≡ true = by (tail left) m h in
      subst IsOpen (sym whole) (text-open (tail left) e m i s)
    where
      by : (l : List ℕ) (n : ℕ) → n ≡ length l → stops (drop n l) ≡ true
      by [] zero h = refl
      by [] (suc n) h = absurd (omega arith)
      by (x ∷ l) zero h = absurd (omega arith)
      by (x ∷ l) (suc n) h = by l n (omega arith)

  pub break-at : m < length (tail left) → is_break (get_or (tail left) m 0) ≡ true → IsOpen left
  break-at h b =
      let s : stops (drop m (tail left)) ≡ true = rw (drop-cons (tail left) m 0 h) b in
      subst IsOpen (sym whole) (text-open (tail left) e m i s)

  pub wrong-at : m < length (tail left) → is_break (get_or (tail left) m 0) ≡ false → (e ≡ false → (get_or (tail left) m 0 == 34) ≡ false) → HasWrong left
  wrong-at h b q = subst HasWrong (sym whole) (text-wrong (tail left) e m i h b q)
