-- The longest sign in front.
use Rattle.std.proofs.Common.{◌≡◌, ℕ, ◌≤◌, ◌<◌, Bool, true, false, ◌&&◌, not, cond, List, [], ◌∷◌, ◌++◌, length, take, drop, refl, arith, ◌==◌, nat_le}
use Rattle.std.proofs.lemmas.Bool.{and_parts, both_ways, not-true}
use Rattle.std.proofs.lemmas.Bool.Decides.{nat_tests}
use Rattle.reo_values.specs.Names.{is_digit, is_letter}
use Rattle.reo_grammar.specs.declared.kind.TokenKind.{TokenKind}
use Rattle.reo_grammar.specs.declared.kind.TokenKind.TheVariants as kinds
use Rattle.reo_grammar.specs.Bytes.{one_of}
use Rattle.reo_grammar.specs.Spelling.{spells, signs}
use Rattle.reo_lexer.specs.Lexing.{IsToken}
use Rattle.reo_lexer.specs.Skipping.{sign_size}
use Rattle.reo_lexer.proofs.Spelled.{sign-like, by-other, no-empty, Longest}

-- The first byte of a sign is no letter, no digit and no quote, and there is at most one more.
pub record Starts (a : ℕ) (x : List ℕ) : Type 0 where
  pub no_letter : is_letter a ≡ false
  pub no_digit : is_digit a ≡ false
  pub no_quote : (a == 34) ≡ false
  pub few : length x ≤ 1

pub sign-starts : (a : ℕ) (x : List ℕ) → one_of (a ∷ x) signs ≡ true → Starts a x
sign-starts a x h =
    let l = sign-like (a ∷ x) h in
    let s = (and_parts (not (is_letter a) && (not (is_digit a) && not (a == 34))) (nat_le (length x) 1) l).0 in
    let t = (and_parts (not (is_letter a)) (not (is_digit a) && not (a == 34)) s).1 in
    let n : nat_le (length x) 1 ≡ true = (and_parts (not (is_letter a) && (not (is_digit a) && not (a == 34))) (nat_le (length x) 1) l).1 in
    record {
      no_letter = not-true (is_letter a) ((and_parts (not (is_letter a)) (not (is_digit a) && not (a == 34)) s).0);
      no_digit = not-true (is_digit a) ((and_parts (not (is_digit a)) (not (a == 34)) t).0);
      no_quote = not-true (a == 34) ((and_parts (not (is_digit a)) (not (a == 34)) t).1);
      few = few-of (length x) n;
    }
  where
    few-of : (n : ℕ) → nat_le n 1 ≡ true → n ≤ 1
    few-of n h = grind (arith, nat_tests)

pub too-long : (a b c : ℕ) (m : List ℕ) → one_of (a ∷ b ∷ c ∷ m) signs ≡ true → ⊥
too-long a b c m h = let f : length (b ∷ c ∷ m) ≤ 1 = (sign-starts a (b ∷ c ∷ m) h).few in absurd (omega arith)

pub two-longest : (a b : ℕ) (rest : List ℕ) → one_of (a ∷ b ∷ []) signs ≡ true → Longest (a ∷ b ∷ []) rest
two-longest a b rest h k [] after w s = refl
two-longest a b rest h k (c ∷ m) after w s =
    let f = sign-starts a (b ∷ []) h in
    absurd (too-long a b c m (by-other k a (b ∷ c ∷ m) f.no_letter f.no_digit f.no_quote s))

pub one-longest : (a b : ℕ) (rest : List ℕ) → one_of (a ∷ []) signs ≡ true → one_of (a ∷ b ∷ []) signs ≡ false → Longest (a ∷ []) (b ∷ rest)
one-longest a b rest h n k [] after w s = refl
one-longest a b rest h n k (c ∷ []) after w s =
    let f = sign-starts a [] h in let e : b ≡ c = cc in
    absurd (both_ways (one_of (a ∷ c ∷ []) signs) (rw e at n) (by-other k a (c ∷ []) f.no_letter f.no_digit f.no_quote s))
one-longest a b rest h n k (c ∷ d ∷ m) after w s =
    let f = sign-starts a [] h in absurd (too-long a c d m (by-other k a (c ∷ d ∷ m) f.no_letter f.no_digit f.no_quote s))

pub last-longest : (a : ℕ) → Longest (a ∷ []) []
last-longest a k [] after w s = refl
last-longest a k (c ∷ m) after w s = absurd (cc)

-- So many bytes in front are a sign, the longest.
pub sign-token : (a : ℕ) (r : List ℕ) (n : ℕ) → sign_size (a ∷ r) ≡ n → 0 < n → IsToken kinds.Sign (take n (a ∷ r)) (drop n (a ∷ r))
sign-token a [] n e h = by (one_of (a ∷ []) signs) refl e
  where
    by : (x : Bool) → one_of (a ∷ []) signs ≡ x → cond x 1 0 ≡ n → IsToken kinds.Sign (take n (a ∷ [])) (drop n (a ∷ []))
    by true q w = rw (← w) (record { spelled = q; short = refl; longest = last-longest a })
    by false q w = absurd (omega arith)
sign-token a (b ∷ r) n e h = by (one_of (a ∷ b ∷ []) signs) (one_of (a ∷ []) signs) refl refl e
  where
    by : (x y : Bool) → one_of (a ∷ b ∷ []) signs ≡ x → one_of (a ∷ []) signs ≡ y → cond x 2 (cond y 1 0) ≡ n → IsToken kinds.Sign (take n (a ∷ b ∷ r)) (drop n (a ∷ b ∷ r))
    by true y q p w = rw (← w) (record { spelled = q; short = refl; longest = two-longest a b r q })
    by false true q p w = rw (← w) (record { spelled = p; short = refl; longest = one-longest a b r p q })
    by false false q p w = absurd (omega arith)

abbrev size_one : Bool → ℕ
size_one x = cond x 1 0

abbrev size_two : Bool → Bool → ℕ
size_two x y = cond x 2 (cond y 1 0)

-- A byte that is no letter, digit or quote and begins no sign begins no token.
pub none-spelled : (a : ℕ) (r : List ℕ) → is_letter a ≡ false → is_digit a ≡ false → (a == 34) ≡ false → sign_size (a ∷ r) ≡ 0
    → (k : TokenKind) (front more : List ℕ) → a ∷ r ≡ front ++ more → spells k front ≡ true → ⊥
none-spelled a r l d q e k [] more w s = no-empty k s
none-spelled a r l d q e k (x ∷ []) more w s =
    let i : a ≡ x = cc in one-none r e (by-other k a [] l d q (rw i s))
  where
    one-none : (r : List ℕ) → sign_size (a ∷ r) ≡ 0 → one_of (a ∷ []) signs ≡ true → ⊥
    one-none [] e h = by (one_of (a ∷ []) signs) e h
      where
        by : (x : Bool) → size_one x ≡ 0 → x ≡ true → ⊥
        by true e h = absurd (omega arith)
        by false e h = cc
    one-none (b ∷ r) e h = by (one_of (a ∷ b ∷ []) signs) (one_of (a ∷ []) signs) e h
      where
        by : (x y : Bool) → size_two x y ≡ 0 → y ≡ true → ⊥
        by true y e h = absurd (omega arith)
        by false true e h = absurd (omega arith)
        by false false e h = cc
none-spelled a r l d q e k (x ∷ y ∷ []) more w s =
    let i : a ≡ x = cc in let v : r ≡ y ∷ more = cc in two-none (rw v at e) (by-other k a (y ∷ []) l d q (rw i s))
  where
    two-none : sign_size (a ∷ y ∷ more) ≡ 0 → one_of (a ∷ y ∷ []) signs ≡ true → ⊥
    two-none e h = by (one_of (a ∷ y ∷ []) signs) (one_of (a ∷ []) signs) e h
      where
        by : (x z : Bool) → size_two x z ≡ 0 → x ≡ true → ⊥
        by true z e h = absurd (omega arith)
        by false z e h = cc
none-spelled a r l d q e k (x ∷ y ∷ z ∷ f) more w s =
    let i : a ≡ x = cc in too-long a y z f (by-other k a (y ∷ z ∷ f) l d q (rw i s))
