-- The kind of a token by its bytes, and the longest token in front.
use Rattle.std.proofs.Common.{◌≡◌, ℕ, ◌≤◌, Bool, true, false, ◌&&◌, ◌||◌, not, cond, List, [], ◌∷◌, ◌++◌, length, refl, sym, ◌∙◌, arith, ◌==◌, nat_le}
use Rattle.std.proofs.lemmas.Bool.{and_parts, both_ways, and_from, not-true}
use Rattle.std.specs.List.{list_all}
use Rattle.std.proofs.lemmas.Bool.Decides.{nat_tests}
use Rattle.std.specs.Str.{bytes_eq}
use Rattle.reo_values.specs.Names.{is_digit, is_letter, is_name_byte, is_name}
use Rattle.reo_grammar.specs.declared.kind.TokenKind.{TokenKind}
use Rattle.reo_grammar.specs.declared.kind.TokenKind.TheVariants as kinds
use Rattle.reo_grammar.specs.Bytes.{one_of}
use Rattle.reo_grammar.specs.Spelling.{spells, is_digits, is_closed, reserved, signs}
use Rattle.reo_grammar.proofs.Classes.{or-cases}
use Rattle.reo_lexer.specs.Faults.{ends}
use Rattle.reo_lexer.specs.Gaps.{is_space}
use Rattle.reo_lexer.proofs.Quotes.{closed-longest}
pub use Rattle.std.proofs.lemmas.Bool.{false_from_ne_true as never, not_from_false as yes-not}
use Rattle.reo_values.proofs.Sequences.{same_bytes}

-- Each of some lists of bytes passes a test.
abbrev pub all_pass : (List ℕ → Bool) → List (List ℕ) → Bool
all_pass p [] = true
all_pass p (x ∷ xs) = p x && all_pass p xs

pub one_of-passes : (p : List ℕ → Bool) (b : List ℕ) (xs : List (List ℕ)) → all_pass p xs ≡ true → one_of b xs ≡ true → p b ≡ true
one_of-passes p b [] h k = absurd (cc)
one_of-passes p b (x ∷ xs) h k = or-cases (bytes_eq b x) (one_of b xs) k
    (λ e. let w : b ≡ x = same_bytes b x e in rw w ((and_parts (p x) (all_pass p xs) h).0))
    (λ e. one_of-passes p b xs ((and_parts (p x) (all_pass p xs) h).1) e)

-- The first byte is no letter, no digit and no quote, and there is at most one more.
abbrev pub sign_like : List ℕ → Bool
sign_like [] = false
sign_like (b ∷ bs) = (not (is_letter b) && (not (is_digit b) && not (b == 34))) && nat_le (length bs) 1

pub reserved-spelled : (b : List ℕ) → one_of b reserved ≡ true → is_name b ≡ true
reserved-spelled b h = one_of-passes is_name b reserved refl h

pub sign-like : (b : List ℕ) → one_of b signs ≡ true → sign_like b ≡ true
sign-like b h = one_of-passes sign_like b signs refl h

abbrev pub kind_of : List ℕ → TokenKind
kind_of [] = kinds.Sign
kind_of (b ∷ bs) = cond (is_letter b) (cond (one_of (b ∷ bs) reserved) kinds.Word kinds.Name) (cond (is_digit b) kinds.Number (cond (b == 34) kinds.Text kinds.Sign))

pub letter-parts : (b : ℕ) → is_letter b ≡ true → (65 ≤ b)
letter-parts b h = or-cases (nat_le 65 b && nat_le b 90) ((nat_le 97 b && nat_le b 122) || b == 95) h
    (λ e. let k : nat_le 65 b ≡ true = (and_parts _ _ e).0 in grind (arith, nat_tests))
    (λ e. or-cases (nat_le 97 b && nat_le b 122) (b == 95) e
    (λ f. let k : nat_le 97 b ≡ true = (and_parts _ _ f).0 in grind (arith, nat_tests))
    (λ f. grind (arith, nat_tests)))

pub digit-parts : (b : ℕ) → is_digit b ≡ true → (48 ≤ b) × (b ≤ 57)
digit-parts b h =
    let k : nat_le 48 b ≡ true = (and_parts (nat_le 48 b) (nat_le b 57) h).0 in
    let l : nat_le b 57 ≡ true = (and_parts (nat_le 48 b) (nat_le b 57) h).1 in
    (grind (arith, nat_tests), grind (arith, nat_tests))

pub quote-part : (b : ℕ) → (b == 34) ≡ true → b ≡ 34
quote-part b h = grind (arith, nat_tests)

digit-no-letter : (b : ℕ) → is_digit b ≡ true → is_letter b ≡ false
digit-no-letter b h = never (is_letter b) (λ e. let k = letter-parts b e in let l = digit-parts b h in omega arith)

-- The kind is the one that the first byte and the reserved words say.
pub spells-kind : (k : TokenKind) (b : List ℕ) → spells k b ≡ true → kind_of b ≡ k
spells-kind kinds.Name [] h = absurd (cc)
spells-kind kinds.Name (b ∷ bs) h =
    let s : is_name (b ∷ bs) ≡ true = (and_parts (is_name (b ∷ bs)) (not (one_of (b ∷ bs) reserved)) h).0 in
    let l : is_letter b ≡ true = (and_parts (is_letter b) (list_all is_name_byte bs) s).0 in
    let n : one_of (b ∷ bs) reserved ≡ false = not-true _ ((and_parts (is_name (b ∷ bs)) (not (one_of (b ∷ bs) reserved)) h).1) in
    by (is_letter b) (one_of (b ∷ bs) reserved) (cond (is_digit b) kinds.Number (cond (b == 34) kinds.Text kinds.Sign)) l n
  where
    by : (x y : Bool) (o : TokenKind) → x ≡ true → y ≡ false → cond x (cond y kinds.Word kinds.Name) o ≡ kinds.Name
    by true false o h k = refl
    by false y o h k = absurd (cc)
    by true true o h k = absurd (cc)
spells-kind kinds.Word [] h = absurd (cc)
spells-kind kinds.Word (b ∷ bs) h =
    by (is_letter b) (one_of (b ∷ bs) reserved) (cond (is_digit b) kinds.Number (cond (b == 34) kinds.Text kinds.Sign)) ((and_parts (is_letter b) (list_all is_name_byte bs) (reserved-spelled (b ∷ bs) h)).0) h
  where
    by : (x y : Bool) (o : TokenKind) → x ≡ true → y ≡ true → cond x (cond y kinds.Word kinds.Name) o ≡ kinds.Word
    by true true o h k = refl
    by false y o h k = absurd (cc)
    by true false o h k = absurd (cc)
spells-kind kinds.Number [] h = absurd (cc)
spells-kind kinds.Number (b ∷ bs) h =
    let d : is_digit b ≡ true = (and_parts (is_digit b) (list_all is_digit bs) h).0 in
    by (is_letter b) (is_digit b) (cond (one_of (b ∷ bs) reserved) kinds.Word kinds.Name) (cond (b == 34) kinds.Text kinds.Sign) (digit-no-letter b d) d
  where
    by : (x y : Bool) (o p : TokenKind) → x ≡ false → y ≡ true → cond x o (cond y kinds.Number p) ≡ kinds.Number
    by false true o p h k = refl
    by true y o p h k = absurd (cc)
    by false false o p h k = absurd (cc)
spells-kind kinds.Text [] h = absurd (cc)
spells-kind kinds.Text (b ∷ bs) h = let q : b ≡ 34 = quote-part b ((and_parts (b == 34) (is_closed false bs) h).0) in rw q refl
spells-kind kinds.Sign [] h = refl
spells-kind kinds.Sign (b ∷ bs) h =
    let s = (and_parts (not (is_letter b) && (not (is_digit b) && not (b == 34))) (nat_le (length bs) 1) (sign-like (b ∷ bs) h)).0 in
    let t = (and_parts (not (is_letter b)) (not (is_digit b) && not (b == 34)) s).1 in
    by (is_letter b) (is_digit b) (b == 34) (cond (one_of (b ∷ bs) reserved) kinds.Word kinds.Name)
    (not-true (is_letter b) ((and_parts (not (is_letter b)) (not (is_digit b) && not (b == 34)) s).0))
    (not-true (is_digit b) ((and_parts (not (is_digit b)) (not (b == 34)) t).0))
    (not-true (b == 34) ((and_parts (not (is_digit b)) (not (b == 34)) t).1))
  where
    by : (x y z : Bool) (o : TokenKind) → x ≡ false → y ≡ false → z ≡ false → cond x o (cond y kinds.Number (cond z kinds.Text kinds.Sign)) ≡ kinds.Sign
    by false false false o h k l = refl
    by true y z o h k l = absurd (cc)
    by false true z o h k l = absurd (cc)
    by false false true o h k l = absurd (cc)

pub one-kind : (k l : TokenKind) (b : List ℕ) → spells k b ≡ true → spells l b ≡ true → k ≡ l
one-kind k l b h i = sym (spells-kind k b h) ∙ spells-kind l b i

-- No token is empty.
pub no-empty : (k : TokenKind) → spells k [] ≡ true → ⊥
no-empty kinds.Name h = cc
no-empty kinds.Word h = cc
no-empty kinds.Number h = cc
no-empty kinds.Text h = cc
no-empty kinds.Sign h = cc

-- What begins with a letter is spelled as names are; with a digit, as numbers are; with a quote, as texts are; else it is a sign.
pub by-letter : (k : TokenKind) (b : ℕ) (bs : List ℕ) → is_letter b ≡ true → spells k (b ∷ bs) ≡ true → is_name (b ∷ bs) ≡ true
by-letter kinds.Name b bs l h = (and_parts (is_name (b ∷ bs)) (not (one_of (b ∷ bs) reserved)) h).0
by-letter kinds.Word b bs l h = reserved-spelled (b ∷ bs) h
by-letter kinds.Number b bs l h = absurd (let k = letter-parts b l in let d = digit-parts b ((and_parts (is_digit b) (list_all is_digit bs) h).0) in omega arith)
by-letter kinds.Text b bs l h = absurd (let k = letter-parts b l in let q = quote-part b ((and_parts (b == 34) (is_closed false bs) h).0) in omega arith)
by-letter kinds.Sign b bs l h =
    absurd (both_ways (is_letter b) (not-true (is_letter b) ((and_parts (not (is_letter b)) (not (is_digit b) && not (b == 34)) ((and_parts (not (is_letter b) && (not (is_digit b) && not (b == 34))) (nat_le (length bs) 1) (sign-like (b ∷ bs) h)).0)).0)) l)

pub by-digit : (k : TokenKind) (b : ℕ) (bs : List ℕ) → is_digit b ≡ true → spells k (b ∷ bs) ≡ true → is_digits (b ∷ bs) ≡ true
by-digit kinds.Name b bs l h = absurd (both_ways (is_letter b) (digit-no-letter b l) ((and_parts (is_letter b) (list_all is_name_byte bs) ((and_parts (is_name (b ∷ bs)) (not (one_of (b ∷ bs) reserved)) h).0)).0))
by-digit kinds.Word b bs l h = absurd (both_ways (is_letter b) (digit-no-letter b l) ((and_parts (is_letter b) (list_all is_name_byte bs) (reserved-spelled (b ∷ bs) h)).0))
by-digit kinds.Number b bs l h = h
by-digit kinds.Text b bs l h = absurd (let k = digit-parts b l in let q = quote-part b ((and_parts (b == 34) (is_closed false bs) h).0) in omega arith)
by-digit kinds.Sign b bs l h =
    absurd (both_ways (is_digit b) (not-true (is_digit b) ((and_parts (not (is_digit b)) (not (b == 34)) ((and_parts (not (is_letter b)) (not (is_digit b) && not (b == 34)) ((and_parts (not (is_letter b) && (not (is_digit b) && not (b == 34))) (nat_le (length bs) 1) (sign-like (b ∷ bs) h)).0)).1)).0)) l)

pub by-quote : (k : TokenKind) (bs : List ℕ) → spells k (34 ∷ bs) ≡ true → is_closed false bs ≡ true
by-quote kinds.Name bs h = absurd (cc)
by-quote kinds.Word bs h = absurd (let k : false ≡ true = reserved-spelled (34 ∷ bs) h in cc)
by-quote kinds.Number bs h = absurd (cc)
by-quote kinds.Text bs h = h
by-quote kinds.Sign bs h = absurd (let k : false ≡ true = sign-like (34 ∷ bs) h in cc)

pub by-other : (k : TokenKind) (b : ℕ) (bs : List ℕ) → is_letter b ≡ false → is_digit b ≡ false → (b == 34) ≡ false → spells k (b ∷ bs) ≡ true → one_of (b ∷ bs) signs ≡ true
by-other kinds.Name b bs l d q h = absurd (both_ways (is_letter b) l ((and_parts (is_letter b) (list_all is_name_byte bs) ((and_parts (is_name (b ∷ bs)) (not (one_of (b ∷ bs) reserved)) h).0)).0))
by-other kinds.Word b bs l d q h = absurd (both_ways (is_letter b) l ((and_parts (is_letter b) (list_all is_name_byte bs) (reserved-spelled (b ∷ bs) h)).0))
by-other kinds.Number b bs l d q h = absurd (both_ways (is_digit b) d ((and_parts (is_digit b) (list_all is_digit bs) h).0))
by-other kinds.Text b bs l d q h = absurd (both_ways (b == 34) q ((and_parts (b == 34) (is_closed false bs) h).0))
by-other kinds.Sign b bs l d q h = h

pub each-next : (p : ℕ → Bool) (bs m : List ℕ) (c : ℕ) → list_all p (bs ++ (c ∷ m)) ≡ true → p c ≡ true
each-next p [] m c h = (and_parts (p c) (list_all p m) h).0
each-next p (b ∷ bs) m c h = each-next p bs m c ((and_parts (p b) (list_all p (bs ++ (c ∷ m))) h).1)

pub ends-no : (p : ℕ → Bool) (rest m after : List ℕ) (c : ℕ) → ends p rest ≡ true → rest ≡ c ∷ (m ++ after) → p c ≡ false
ends-no p [] m after c h w = absurd (cc)
ends-no p (x ∷ rest) m after c h w = let e : x ≡ c = cc in not-true (p c) (rw e at h)

abbrev pub Longest : List ℕ → List ℕ → Type 0
Longest bytes rest = (k : TokenKind) (more after : List ℕ) → rest ≡ more ++ after → spells k (bytes ++ more) ≡ true → more ≡ []

pub name-longest : (b : ℕ) (bs rest : List ℕ) → is_letter b ≡ true → ends is_name_byte rest ≡ true → Longest (b ∷ bs) rest
name-longest b bs rest l e k [] after w h = refl
name-longest b bs rest l e k (c ∷ m) after w h =
    let s : is_name (b ∷ (bs ++ (c ∷ m))) ≡ true = by-letter k b (bs ++ (c ∷ m)) l h in
    let i : is_name_byte c ≡ true = each-next is_name_byte bs m c ((and_parts (is_letter b) (list_all is_name_byte (bs ++ (c ∷ m))) s).1) in
    absurd (both_ways (is_name_byte c) (ends-no is_name_byte rest m after c e w) i)

pub number-longest : (b : ℕ) (bs rest : List ℕ) → is_digit b ≡ true → ends is_digit rest ≡ true → Longest (b ∷ bs) rest
number-longest b bs rest l e k [] after w h = refl
number-longest b bs rest l e k (c ∷ m) after w h =
    let s : is_digits (b ∷ (bs ++ (c ∷ m))) ≡ true = by-digit k b (bs ++ (c ∷ m)) l h in
    let i : is_digit c ≡ true = each-next is_digit bs m c ((and_parts (is_digit b) (list_all is_digit (bs ++ (c ∷ m))) s).1) in
    absurd (both_ways (is_digit c) (ends-no is_digit rest m after c e w) i)

pub text-longest : (bs rest : List ℕ) → is_closed false bs ≡ true → Longest (34 ∷ bs) rest
text-longest bs rest e k more after w h = closed-longest bs more e (by-quote k (bs ++ more) h)

-- The first byte of a token is no space and no `#`.
abbrev pub no_gap_head : List ℕ → Bool
no_gap_head [] = false
no_gap_head (b ∷ bs) = not (is_space b) && not (b == 35)

head-by-bounds : (b : ℕ) (bs : List ℕ) → 36 ≤ b → no_gap_head (b ∷ bs) ≡ true
head-by-bounds b bs h =
    and_from (not (is_space b)) (not (b == 35))
    (yes-not (is_space b) (never (is_space b) (λ e. or-cases (b == 32) (b == 9 || (b == 13 || b == 10)) e
    (λ q. let n : b ≡ 32 = grind (arith, nat_tests) in absurd (omega arith))
    (λ q. or-cases (b == 9) (b == 13 || b == 10) q
    (λ w. let n : b ≡ 9 = grind (arith, nat_tests) in absurd (omega arith))
    (λ w. or-cases (b == 13) (b == 10) w
    (λ v. let n : b ≡ 13 = grind (arith, nat_tests) in absurd (omega arith))
    (λ v. let n : b ≡ 10 = grind (arith, nat_tests) in absurd (omega arith)))))))
    (yes-not (b == 35) (never (b == 35) (λ e. let n : b ≡ 35 = grind (arith, nat_tests) in absurd (omega arith))))

pub digit-head : (b : ℕ) (bs : List ℕ) → is_digit b ≡ true → no_gap_head (b ∷ bs) ≡ true
digit-head b bs h = let d = digit-parts b h in head-by-bounds b bs (omega arith)

pub token-head : (k : TokenKind) (bytes : List ℕ) → spells k bytes ≡ true → no_gap_head bytes ≡ true
token-head kinds.Name [] h = absurd (cc)
token-head kinds.Name (b ∷ bs) h =
    let l = letter-parts b ((and_parts (is_letter b) (list_all is_name_byte bs) ((and_parts (is_name (b ∷ bs)) (not (one_of (b ∷ bs) reserved)) h).0)).0) in head-by-bounds b bs (omega arith)
token-head kinds.Word b h = one_of-passes no_gap_head b reserved refl h
token-head kinds.Number [] h = absurd (cc)
token-head kinds.Number (b ∷ bs) h = digit-head b bs ((and_parts (is_digit b) (list_all is_digit bs) h).0)
token-head kinds.Text [] h = absurd (cc)
token-head kinds.Text (b ∷ bs) h = let q : b ≡ 34 = quote-part b ((and_parts (b == 34) (is_closed false bs) h).0) in rw q refl
token-head kinds.Sign b h = one_of-passes no_gap_head b signs refl h
