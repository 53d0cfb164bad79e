-- Laws of the classes of tokens.
use Rattle.std.proofs.Common.{◌≡◌, ℕ, Bool, true, false, ◌&&◌, ◌||◌, not, List, [], ◌∷◌, ◌++◌, refl, sym, ◌∙◌, ap, arith, nat_le}
use Rattle.std.proofs.lemmas.Bool.{and_parts, not-true as not_true, both_ways, and_from}
use Rattle.std.specs.Str.{bytes_eq}
use Rattle.reo_grammar.specs.declared.kind.TokenKind.{TokenKind}
use Rattle.reo_grammar.specs.declared.kind.TokenKind.TheVariants as kinds
use Rattle.std.proofs.lemmas.Bool.Decides.{nat_tests}
use Rattle.reo_grammar.specs.Tokens.{Lexeme, Class, matches, is_fixed, is_name, is_number, is_text}
use Rattle.reo_grammar.specs.Bytes.{one_of}
use Rattle.reo_grammar.specs.Tokens.Class.{fixed, among, other, name, named, number, text}
use Rattle.reo_grammar.specs.Grammar.{starts}
use Rattle.reo_grammar.specs.Sight.{as_word, none_of, each_of, differ, apart, inside, apart_from, all_apart, all_inside}
use Rattle.reo_grammar.proofs.Sound.{not-true}
pub use Rattle.std.proofs.lemmas.Bool.{false_from_ne_true as false-not}
use Rattle.reo_values.proofs.Sequences.{same_bytes}

pub or-cases : {P : Type 0} (a b : Bool) → (a || b) ≡ true → (a ≡ true → P) → (b ≡ true → P) → P
or-cases true b h f g = f refl
or-cases false b h f g = g h

-- A word or sign is of a class where the word of its bytes is.
same_word : (k : TokenKind) (b : List ℕ) (l : ℕ) (d : Class) → is_fixed k ≡ true → matches d (record { kind = k; bytes = b; line = l }) ≡ matches d (as_word b)
same_word kinds.Word b l (fixed x) h = refl
same_word kinds.Word b l (among x) h = refl
same_word kinds.Word b l (other x) h = refl
same_word kinds.Word b l name h = refl
same_word kinds.Word b l (named x) h = refl
same_word kinds.Word b l (number x y) h = refl
same_word kinds.Word b l text h = refl
same_word kinds.Sign b l (fixed x) h = refl
same_word kinds.Sign b l (among x) h = refl
same_word kinds.Sign b l (other x) h = refl
same_word kinds.Sign b l name h = refl
same_word kinds.Sign b l (named x) h = refl
same_word kinds.Sign b l (number x y) h = refl
same_word kinds.Sign b l text h = refl
same_word kinds.Name b l d h = absurd (cc)
same_word kinds.Number b l d h = absurd (cc)
same_word kinds.Text b l d h = absurd (cc)

-- A class that a word or sign is of.
of_word : (t : Lexeme) (b : List ℕ) (d : Class) → matches (fixed b) t ≡ true → matches d t ≡ matches d (as_word b)
of_word t b d h = let e : t.bytes ≡ b = same_bytes t.bytes b ((and_parts _ _ h).1) in same_word t.kind t.bytes t.line d ((and_parts _ _ h).0) ∙ ap (λ x. matches d (as_word x)) e

one_of-none : (t : Lexeme) (bs : List (List ℕ)) (d : Class) → is_fixed t.kind ≡ true → one_of t.bytes bs ≡ true → none_of d bs ≡ true → matches d t ≡ false
one_of-none t [] d k h n = absurd (cc)
one_of-none t (b ∷ bs) d k h n = or-cases (bytes_eq t.bytes b) (one_of t.bytes bs) h
    (λ e. of_word t b d (and_from _ _ k e) ∙ not_true _ ((and_parts _ _ n).0))
    (λ e. one_of-none t bs d k e ((and_parts _ _ n).1))

one_of-each : (t : Lexeme) (bs : List (List ℕ)) (d : Class) → is_fixed t.kind ≡ true → one_of t.bytes bs ≡ true → each_of d bs ≡ true → matches d t ≡ true
one_of-each t [] d k h n = absurd (cc)
one_of-each t (b ∷ bs) d k h n = or-cases (bytes_eq t.bytes b) (one_of t.bytes bs) h
    (λ e. of_word t b d (and_from _ _ k e) ∙ (and_parts _ _ n).0)
    (λ e. one_of-each t bs d k e ((and_parts _ _ n).1))

pub name-kind : (k : TokenKind) → is_name k ≡ true → k ≡ kinds.Name
name-kind kinds.Name h = refl
name-kind kinds.Word h = absurd (cc)
name-kind kinds.Number h = absurd (cc)
name-kind kinds.Text h = absurd (cc)
name-kind kinds.Sign h = absurd (cc)

pub number-kind : (k : TokenKind) → is_number k ≡ true → k ≡ kinds.Number
number-kind kinds.Number h = refl
number-kind kinds.Word h = absurd (cc)
number-kind kinds.Name h = absurd (cc)
number-kind kinds.Text h = absurd (cc)
number-kind kinds.Sign h = absurd (cc)

pub text-kind : (k : TokenKind) → is_text k ≡ true → k ≡ kinds.Text
text-kind kinds.Text h = refl
text-kind kinds.Word h = absurd (cc)
text-kind kinds.Number h = absurd (cc)
text-kind kinds.Name h = absurd (cc)
text-kind kinds.Sign h = absurd (cc)

-- The kind that a class of names, numbers or texts has.
of_name : (t : Lexeme) → matches name t ≡ true → t.kind ≡ kinds.Name
of_name t h = name-kind t.kind h

of_named : (t : Lexeme) (b : List ℕ) → matches (named b) t ≡ true → t.kind ≡ kinds.Name
of_named t b h = name-kind t.kind ((and_parts _ _ h).0)

of_number : (t : Lexeme) (l m : ℕ) → matches (number l m) t ≡ true → t.kind ≡ kinds.Number
of_number t l m h = number-kind t.kind ((and_parts _ _ h).0)

of_text : (t : Lexeme) → matches text t ≡ true → t.kind ≡ kinds.Text
of_text t h = text-kind t.kind h

differ-no : (c d : Class) (t : Lexeme) → differ c d ≡ true → matches c t ≡ true → matches d t ≡ true → ⊥
differ-no name (number l m) t h p q = let a = of_name t p in let b = of_number t l m q in cc
differ-no name text t h p q = let a = of_name t p in let b = of_text t q in cc
differ-no (named b) (named d) t h p q =
    let e : t.bytes ≡ b = same_bytes t.bytes b ((and_parts _ _ p).1) in
    not-true (bytes_eq b d) h (rw e at ((and_parts (is_name t.kind) (bytes_eq t.bytes d) q).1))
differ-no (named b) (number l m) t h p q = let a = of_named t b p in let c = of_number t l m q in cc
differ-no (named b) text t h p q = let a = of_named t b p in let c = of_text t q in cc
differ-no (number l m) (named b) t h p q = let a = of_named t b q in let c = of_number t l m p in cc
differ-no text (named b) t h p q = let a = of_named t b q in let c = of_text t p in cc
differ-no (number l m) name t h p q = let a = of_name t q in let b = of_number t l m p in cc
differ-no (number l m) text t h p q = let a = of_text t q in let b = of_number t l m p in cc
differ-no text name t h p q = let a = of_name t q in let b = of_text t p in cc
differ-no text (number l m) t h p q = let a = of_text t p in let b = of_number t l m q in cc
differ-no _ _ t h p q = cc

word-apart : (b : List ℕ) (d : Class) (t : Lexeme) → not (matches d (as_word b)) ≡ true → matches (fixed b) t ≡ true → matches d t ≡ true → ⊥
word-apart b d t h p q = not-true (matches d (as_word b)) h (sym (of_word t b d p) ∙ q)

words-apart : (bs : List (List ℕ)) (d : Class) (t : Lexeme) → none_of d bs ≡ true → matches (among bs) t ≡ true → matches d t ≡ true → ⊥
words-apart bs d t h p q = let e : matches d t ≡ false = one_of-none t bs d ((and_parts _ _ p).0) ((and_parts _ _ p).1) h in both_ways (matches d t) e q

pub apart-no : (c d : Class) (t : Lexeme) → apart c d ≡ true → matches c t ≡ true → matches d t ≡ true → ⊥
apart-no (fixed b) d t h p q = word-apart b d t h p q
apart-no (among bs) d t h p q = words-apart bs d t h p q
apart-no (other x) (fixed b) t h p q = word-apart b (other x) t h q p
apart-no (other x) (among bs) t h p q = words-apart bs (other x) t h q p
apart-no name (fixed b) t h p q = word-apart b name t h q p
apart-no name (among bs) t h p q = words-apart bs name t h q p
apart-no (number l m) (fixed b) t h p q = word-apart b (number l m) t h q p
apart-no (number l m) (among bs) t h p q = words-apart bs (number l m) t h q p
apart-no text (fixed b) t h p q = word-apart b text t h q p
apart-no text (among bs) t h p q = words-apart bs text t h q p
apart-no (other x) (other y) t h p q = differ-no (other x) (other y) t h p q
apart-no (named x) (fixed b) t h p q = word-apart b (named x) t h q p
apart-no (named x) (among bs) t h p q = words-apart bs (named x) t h q p
apart-no (named x) (other y) t h p q = differ-no (named x) (other y) t h p q
apart-no (named x) name t h p q = differ-no (named x) name t h p q
apart-no (named x) (named y) t h p q = differ-no (named x) (named y) t h p q
apart-no (named x) (number l m) t h p q = differ-no (named x) (number l m) t h p q
apart-no (named x) text t h p q = differ-no (named x) text t h p q
apart-no (other x) (named y) t h p q = differ-no (other x) (named y) t h p q
apart-no name (named y) t h p q = differ-no name (named y) t h p q
apart-no (number l m) (named y) t h p q = differ-no (number l m) (named y) t h p q
apart-no text (named y) t h p q = differ-no text (named y) t h p q
apart-no (other x) name t h p q = differ-no (other x) name t h p q
apart-no (other x) (number l m) t h p q = differ-no (other x) (number l m) t h p q
apart-no (other x) text t h p q = differ-no (other x) text t h p q
apart-no name (other y) t h p q = differ-no name (other y) t h p q
apart-no name name t h p q = differ-no name name t h p q
apart-no name (number l m) t h p q = differ-no name (number l m) t h p q
apart-no name text t h p q = differ-no name text t h p q
apart-no (number l m) (other y) t h p q = differ-no (number l m) (other y) t h p q
apart-no (number l m) name t h p q = differ-no (number l m) name t h p q
apart-no (number l m) (number x y) t h p q = differ-no (number l m) (number x y) t h p q
apart-no (number l m) text t h p q = differ-no (number l m) text t h p q
apart-no text (other y) t h p q = differ-no text (other y) t h p q
apart-no text name t h p q = differ-no text name t h p q
apart-no text (number l m) t h p q = differ-no text (number l m) t h p q
apart-no text text t h p q = differ-no text text t h p q

-- A name, a number or a text is no word.
of_kind : (t : Lexeme) (b : List ℕ) → is_fixed t.kind ≡ false → matches (other b) t ≡ true
of_kind t b h = rw h refl

le_le : (a b c : ℕ) → nat_le a b ≡ true → nat_le b c ≡ true → nat_le a c ≡ true
le_le a b c h k = grind (arith, nat_tests)

between : (a b c d x : ℕ) → (nat_le c a && nat_le b d) ≡ true → (nat_le a x && nat_le x b) ≡ true → (nat_le c x && nat_le x d) ≡ true
between a b c d x h k = and_from _ _ (le_le c a x ((and_parts _ _ h).0) ((and_parts _ _ k).0)) (le_le x b d ((and_parts _ _ k).1) ((and_parts _ _ h).1))

pub inside-yes : (c d : Class) (t : Lexeme) → inside c d ≡ true → matches c t ≡ true → matches d t ≡ true
inside-yes (fixed b) d t h p = of_word t b d p ∙ h
inside-yes (among bs) d t h p = one_of-each t bs d ((and_parts _ _ p).0) ((and_parts _ _ p).1) h
inside-yes name name t h p = p
inside-yes text text t h p = p
inside-yes (number l m) (number x y) t h p = and_from _ _ ((and_parts _ _ p).0) (between l m x y _ h ((and_parts _ _ p).1))
inside-yes (named b) name t h p = (and_parts _ _ p).0
inside-yes (named b) (named d) t h p =
    let e : t.bytes ≡ b = same_bytes t.bytes b ((and_parts _ _ p).1) in
    and_from (is_name t.kind) (bytes_eq t.bytes d) ((and_parts _ _ p).0) (rw e h)
inside-yes (named d) (other b) t h p = of_kind t b (rw (of_named t d p) refl)
inside-yes name (other b) t h p = of_kind t b (rw (of_name t p) refl)
inside-yes text (other b) t h p = of_kind t b (rw (of_text t p) refl)
inside-yes (number l m) (other b) t h p = of_kind t b (rw (of_number t l m p) refl)
inside-yes _ _ t h p = absurd (cc)

-- The token is of one of the classes.
abbrev pub matches_any : List Class → Lexeme → Bool
matches_any [] t = false
matches_any (c ∷ cs) t = matches c t || matches_any cs t

pub starts_of : (cs : List Class) (d : Class) (t : Lexeme) → all_inside cs d ≡ true → matches_any cs t ≡ true → matches d t ≡ true
starts_of [] d t h p = absurd (cc)
starts_of (c ∷ cs) d t h p = or-cases (matches c t) (matches_any cs t) p (λ e. inside-yes c d t ((and_parts _ _ h).0) e) (λ e. starts_of cs d t ((and_parts _ _ h).1) e)

pub apart_from-no : (c : Class) (ds : List Class) (t : Lexeme) → apart_from c ds ≡ true → matches c t ≡ true → matches_any ds t ≡ true → ⊥
apart_from-no c [] t h p q = cc
apart_from-no c (d ∷ ds) t h p q = or-cases (matches d t) (matches_any ds t) q (λ e. apart-no c d t ((and_parts _ _ h).0) p e) (λ e. apart_from-no c ds t ((and_parts _ _ h).1) p e)

pub all_apart-no : (cs ds : List Class) (t : Lexeme) → all_apart cs ds ≡ true → matches_any cs t ≡ true → matches_any ds t ≡ true → ⊥
all_apart-no [] ds t h p q = cc
all_apart-no (c ∷ cs) ds t h p q = or-cases (matches c t) (matches_any cs t) p (λ e. apart_from-no c ds t ((and_parts _ _ h).0) e q) (λ e. all_apart-no cs ds t ((and_parts _ _ h).1) e q)

pub or_assoc : (a b c : Bool) → (a || (b || c)) ≡ ((a || b) || c)
or_assoc true b c = refl
or_assoc false b c = refl

pub matches_any-append : (cs ds : List Class) (t : Lexeme) → matches_any (cs ++ ds) t ≡ (matches_any cs t || matches_any ds t)
matches_any-append [] ds t = refl
matches_any-append (c ∷ cs) ds t = ap (λ b. matches c t || b) (matches_any-append cs ds t) ∙ or_assoc (matches c t) (matches_any cs t) (matches_any ds t)

-- The next token is one of several words where it is the first of them or one of the others.
pub starts_among-cons : (b : List ℕ) (bs : List (List ℕ)) (ts : List Lexeme) → starts (among (b ∷ bs)) ts ≡ (starts (fixed b) ts || starts (among bs) ts)
starts_among-cons b bs [] = refl
starts_among-cons b bs (t ∷ ts) = and-or (is_fixed t.kind) (bytes_eq t.bytes b) (one_of t.bytes bs)
  where
    and-or : (a b c : Bool) → (a && (b || c)) ≡ ((a && b) || (a && c))
    and-or true b c = refl
    and-or false b c = refl

pub starts_among-nil : (ts : List Lexeme) → starts (among []) ts ≡ false
starts_among-nil [] = refl
starts_among-nil (t ∷ ts) = and-false (is_fixed t.kind)
  where
    and-false : (a : Bool) → (a && false) ≡ false
    and-false true = refl
    and-false false = refl
