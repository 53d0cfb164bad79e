-- The first bytes of names and numbers, and what stands before them.
use Rattle.std.proofs.Common.{◌≡◌, ℕ, ◌==◌, Bool, true, false, not, List, [], ◌∷◌, ◌++◌, refl, sym, ◌∙◌, ap, subst, arith, codes}
use Rattle.std.specs.List.{list_all}
use Rattle.std.proofs.lemmas.Bool.Decides.{nat_tests}
use Rattle.reo_values.specs.Names.{is_letter, is_digit, is_name_byte, is_name}
use Rattle.reo_grammar.specs.declared.kind.TokenKind.TheVariants as kinds
use Rattle.reo_grammar.specs.Bytes.{one_of}
use Rattle.reo_grammar.specs.Spelling.{spells, is_short, is_digits, reserved}
use Rattle.reo_grammar.specs.Tokens.{Lexeme, matches, is_real}
use Rattle.reo_grammar.specs.Tokens.Class.{name, named}
use Rattle.reo_lexer.specs.Gaps.{is_space}
use Rattle.reo_lexer.proofs.Cut.{is_cut}
use Rattle.reo_lexer.proofs.Spelled.{never}
use Rattle.reo_trees.specs.Forms.{named_word}
use Rattle.reo_syntax_laws.proofs.Again.{Out, out-made, out-text, out-token, even-alike}
use Rattle.reo_syntax_laws.proofs.Seen.{World, See, see-made, see-token}
use Rattle.std.proofs.lemmas.Bool.{or_left as or-first, or_right as or-second, and_parts}
use Rattle.reo_values.proofs.Sequences.{same_bytes}
use Rattle.reo_grammar.proofs.Classes.{name-kind}

-- The first byte is a letter or a digit.
abbrev pub starts_well : List ℕ → Bool
starts_well [] = false
starts_well (b ∷ bs) = is_name_byte b

pub starts-append : (a b : List ℕ) → starts_well a ≡ true → starts_well (a ++ b) ≡ true
starts-append [] b h = absurd (cc)
starts-append (x ∷ a) b h = h

name-starts : (b : List ℕ) → is_name b ≡ true → starts_well b ≡ true
name-starts [] h = absurd (cc)
name-starts (b ∷ bs) h = or-first (is_letter b) (is_digit b) ((and_parts (is_letter b) (list_all is_name_byte bs) h).0)

pub digits-start : (b : List ℕ) → is_digits b ≡ true → starts_well b ≡ true
digits-start [] h = absurd (cc)
digits-start (b ∷ bs) h = or-second (is_letter b) (is_digit b) ((and_parts (is_digit b) (list_all is_digit bs) h).0)

-- The token of a name.
pub token-starts : (t : Lexeme) → matches name t ≡ true → is_real t ≡ true → starts_well t.bytes ≡ true
token-starts t m q =
    let s : spells kinds.Name t.bytes ≡ true = subst (λ k. spells k t.bytes ≡ true) (name-kind t.kind m) ((and_parts (spells t.kind t.bytes) (is_short t.kind t.bytes) q).0) in
    name-starts t.bytes ((and_parts (is_name t.bytes) (not (one_of t.bytes reserved)) s).0)

not-byte : (n b : ℕ) → is_name_byte b ≡ true → is_name_byte n ≡ false → (b == n) ≡ false
not-byte n b h k = never (b == n) (λ e. absurd (let i : b ≡ n = grind (arith, nat_tests) in let j : is_name_byte n ≡ true = subst (λ z. is_name_byte z ≡ true) i h in let q : false ≡ true = sym k ∙ j in cc))

-- A `.` or a `<` before it is a sign of its own.
pub dot-cut : (a r : List ℕ) → starts_well a ≡ true → is_cut kinds.Sign (codes ".") (a ++ r) ≡ true
dot-cut [] r h = absurd (cc)
dot-cut (b ∷ bs) r h = let e : (b == 46) ≡ false = not-byte 46 b h refl in rw e refl

pub less-cut : (a r : List ℕ) → starts_well a ≡ true → is_cut kinds.Sign (codes "<") (a ++ r) ≡ true
less-cut [] r h = absurd (cc)
less-cut (b ∷ bs) r h = let e : (b == 61) ≡ false = not-byte 61 b h refl in rw e refl

-- A name that is a word of version 2.
pub out-named : (b gap : List ℕ) (t : Lexeme) (r : List ℕ) → matches (named b) t ≡ true → is_real t ≡ true → list_all is_space gap ≡ true → is_cut kinds.Name b (gap ++ r) ≡ true
    → Out (named_word b) (b ++ gap) (t ∷ []) r (λ x. Unit {0})
out-named b gap t r m q s i =
    let e : t.bytes ≡ b = same_bytes t.bytes b ((and_parts _ _ m).1) in
    let k : t.kind ≡ kinds.Name = name-kind t.kind ((and_parts _ _ m).0) in
    let c : is_cut t.kind t.bytes (gap ++ r) ≡ true = rw (k, e) i in
    out-text (ap (λ l. l ++ gap) e) (out-made (λ x. Unit {0}) (out-token (named b) t t gap r m q s c (even-alike t t refl refl)) (λ x h. tt))

pub see-named : {w : World} {b : List ℕ} {P : List Lexeme → Unit {0} → Type 0} → ((t : Lexeme) → matches (named b) t ≡ true → is_real t ≡ true → P (t ∷ []) tt) → See w (named_word b) P
see-named s = see-made (see-token s)
