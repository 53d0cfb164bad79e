-- One token of sight: which classes may begin a form, which may go on after it, and the test that these never meet.
use Rattle.std.specs.Prelude.{ℕ, Bool, true, false, ◌&&◌, not, cond, List, [], ◌∷◌, ◌++◌, nat_le}
use Rattle.std.specs.Str.{bytes_eq}
use Rattle.reo_grammar.specs.declared.kind.TokenKind.TheVariants as kinds
use Rattle.reo_grammar.specs.Tokens.{Lexeme, Class, matches}
use Rattle.reo_grammar.specs.Tokens.Class.{fixed, among, other, name, named, number, text}
use Rattle.reo_grammar.specs.Conditions.{is_nullable}
use Rattle.reo_grammar.specs.Grammar.{Grammar}
use Rattle.reo_grammar.specs.Grammar.Grammar.{nothing, token, both, made, either, chain, lined, rule}

-- The word or sign of these bytes.
abbrev pub as_word : List ℕ → Lexeme
as_word b = record { kind = kinds.Word; bytes = b; line = 0 }

-- None of these words is of the class.
abbrev pub none_of : Class → List (List ℕ) → Bool
none_of d [] = true
none_of d (b ∷ bs) = not (matches d (as_word b)) && none_of d bs

-- Each of these words is of the class.
abbrev pub each_of : Class → List (List ℕ) → Bool
each_of d [] = true
each_of d (b ∷ bs) = matches d (as_word b) && each_of d bs

-- No token is of both classes, neither of which is of words.
abbrev pub differ : Class → Class → Bool
differ name (number l h) = true
differ name text = true
differ (named b) (named d) = not (bytes_eq b d)
differ (named b) (number l h) = true
differ (named b) text = true
differ (number l h) name = true
differ (number l h) (named b) = true
differ (number l h) text = true
differ text name = true
differ text (named b) = true
differ text (number l h) = true
differ _ _ = false

-- No token is of both classes.
abbrev pub apart : Class → Class → Bool
apart (fixed b) d = not (matches d (as_word b))
apart (among bs) d = none_of d bs
apart c (fixed b) = not (matches c (as_word b))
apart c (among bs) = none_of c bs
apart c d = differ c d

-- Each token of the first class is of the second.
abbrev pub inside : Class → Class → Bool
inside (fixed b) d = matches d (as_word b)
inside (among bs) d = each_of d bs
inside name name = true
inside text text = true
inside (number l h) (number m i) = nat_le m l && nat_le h i
inside (named b) name = true
inside (named b) (named d) = bytes_eq b d
inside name (other b) = true
inside (named d) (other b) = true
inside text (other b) = true
inside (number l h) (other b) = true
inside _ _ = false

abbrev pub apart_from : Class → List Class → Bool
apart_from c [] = true
apart_from c (d ∷ ds) = apart c d && apart_from c ds

abbrev pub all_apart : List Class → List Class → Bool
all_apart [] ds = true
all_apart (c ∷ cs) ds = apart_from c ds && all_apart cs ds

abbrev pub all_inside : List Class → Class → Bool
all_inside [] d = true
all_inside (c ∷ cs) d = inside c d && all_inside cs d

-- The classes of the tokens that a derived list begins with.
abbrev pub firsts : {Ref : Type 0} {tree : Ref → Type 0} {A : Type 0} → (Ref → List Class) → Grammar Ref tree A → List Class
firsts F (nothing x) = []
firsts F (token c) = c ∷ []
firsts F (both f g h) = firsts F g ++ cond (is_nullable g) (firsts F h) []
firsts F (made f g) = firsts F g
firsts F (either c g h) = firsts F g ++ firsts F h
firsts F (chain f c g h) = firsts F g ++ cond (is_nullable g) (firsts F h) []
firsts F (lined f g) = firsts F g
firsts F (rule r) = F r

-- The classes of the tokens that may go on after a whole derived list.
abbrev pub mores : {Ref : Type 0} {tree : Ref → Type 0} {A : Type 0} → (Ref → List Class) → Grammar Ref tree A → List Class
mores M (nothing x) = []
mores M (token c) = []
mores M (both f g h) = mores M h ++ cond (is_nullable h) (mores M g) []
mores M (made f g) = mores M g
mores M (either c g h) = cond (is_nullable h) (c ∷ []) [] ++ (mores M g ++ mores M h)
mores M (chain f c g h) = c ∷ (mores M g ++ mores M h)
mores M (lined f g) = mores M g
mores M (rule r) = M r

-- Wherever reading chooses, the next token decides.
abbrev pub is_sighted : {Ref : Type 0} {tree : Ref → Type 0} {A : Type 0} → (Ref → List Class) → (Ref → List Class) → Grammar Ref tree A → Bool
is_sighted F M (nothing x) = true
is_sighted F M (token c) = true
is_sighted F M (both f g h) = all_apart (firsts F h) (mores M g) && (is_sighted F M g && is_sighted F M h)
is_sighted F M (made f g) = is_sighted F M g
is_sighted F M (either c g h) = not (is_nullable g) && (all_inside (firsts F g) c && (apart_from c (firsts F h) && (is_sighted F M g && is_sighted F M h)))
is_sighted F M (chain f c g h) = not (is_nullable h) && (all_inside (firsts F h) c && (apart_from c (mores M g ++ mores M h) && (is_sighted F M g && is_sighted F M h)))
is_sighted F M (lined f g) = is_sighted F M g
is_sighted F M (rule r) = true
