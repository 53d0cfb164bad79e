-- The bytes of a text in quotes are printable, and names are names.
use Rattle.std.proofs.Common.{arith, ◌≡◌, ℕ, ◌-◌, ◌==◌, Bool, true, false, ◌&&◌, not, cond, List, [], ◌∷◌, length, take, sym, subst}
use Rattle.std.proofs.lemmas.Bool.{and_parts, not-true}
use Rattle.std.specs.List.{All}
use Rattle.std.proofs.lemmas.Bool.Decides.{nat_tests}
use Rattle.reo_values.specs.Kind.{IsPlain}
use Rattle.reo_values.proofs.Tests.{is_name-is}
use Rattle.reo_grammar.specs.declared.kind.TokenKind.TheVariants as kinds
use Rattle.reo_grammar.specs.Bytes.{is_unescaped, is_escaped, one_of}
use Rattle.reo_grammar.specs.Spelling.{spells, is_short, is_closed, reserved}
use Rattle.reo_grammar.specs.Tokens.{Lexeme, matches, is_real}
use Rattle.reo_grammar.specs.Tokens.Class.{name, text}
use Rattle.reo_grammar.proofs.Classes.{text-kind, name-kind}
use Rattle.reo_values.specs.Names.{is_name}
use Rattle.reo_trees.specs.Texts.{resolved, text_bytes}
use Rattle.reo_syntax.proofs.Quotes.{take-body}
use Rattle.reo_syntax_laws.specs.trees_laws.Spelled.{IsFreeName}
use Rattle.reo_syntax_laws.proofs.trees_laws.Lists.{all-none, all-cons}

-- All but the last byte.
abbrev body : List ℕ → List ℕ
body [] = []
body (b ∷ []) = []
body (b ∷ c ∷ bs) = b ∷ body (c ∷ bs)

escaped-plain : (b : ℕ) → is_escaped b ≡ true → IsPlain b
escaped-plain b h = (grind (arith, nat_tests), grind (arith, nat_tests))

unescaped-plain : (b : ℕ) → is_unescaped b ≡ true → IsPlain b
unescaped-plain b h = (grind (arith, nat_tests), grind (arith, nat_tests))

closed-plain : (e : Bool) (bs : List ℕ) → is_closed e bs ≡ true → All IsPlain (resolved e (body bs))
closed-plain true [] h = absurd (cc)
closed-plain false [] h = absurd (cc)
closed-plain true (b ∷ []) h = all-none IsPlain
closed-plain true (b ∷ c ∷ bs) h =
    all-cons IsPlain b (resolved false (body (c ∷ bs))) (escaped-plain b ((and_parts (is_escaped b) (is_closed false (c ∷ bs)) h).0))
    (closed-plain false (c ∷ bs) ((and_parts (is_escaped b) (is_closed false (c ∷ bs)) h).1))
closed-plain false (b ∷ []) h = all-none IsPlain
closed-plain false (b ∷ c ∷ bs) h = by (b == 34) (b == 92) h (λ k. closed-plain true (c ∷ bs) k) (λ k. closed-plain false (c ∷ bs) k)
  where
    by : (x y : Bool) → cond x false (cond y (is_closed true (c ∷ bs)) (is_unescaped b && is_closed false (c ∷ bs))) ≡ true
        → (is_closed true (c ∷ bs) ≡ true → All IsPlain (resolved true (body (c ∷ bs))))
        → (is_closed false (c ∷ bs) ≡ true → All IsPlain (resolved false (body (c ∷ bs))))
        → All IsPlain (cond y (resolved true (body (c ∷ bs))) (b ∷ resolved false (body (c ∷ bs))))
    by true y h i j = absurd (cc)
    by false true h i j = i h
    by false false h i j =
        all-cons IsPlain b (resolved false (body (c ∷ bs))) (unescaped-plain b ((and_parts (is_unescaped b) (is_closed false (c ∷ bs)) h).0)) (j ((and_parts (is_unescaped b) (is_closed false (c ∷ bs)) h).1))

spelled-plain : (bs : List ℕ) → spells kinds.Text bs ≡ true → All IsPlain (text_bytes bs)
spelled-plain [] h = absurd (cc)
spelled-plain (q ∷ []) h = absurd (let k : false ≡ true = (and_parts (q == 34) false h).1 in cc)
spelled-plain (q ∷ b ∷ bs) h =
    let same : take (length (q ∷ b ∷ bs) - 2) (b ∷ bs) ≡ body (b ∷ bs) = take-body (length (q ∷ b ∷ bs) - 2) (b ∷ bs) (omega arith) in
    subst (λ l. All IsPlain (resolved false l)) (sym same) (closed-plain false (b ∷ bs) ((and_parts (q == 34) (is_closed false (b ∷ bs)) h).1))

-- The token of a text in quotes stands for printable bytes.
pub text-plain : (t : Lexeme) → matches text t ≡ true → is_real t ≡ true → All IsPlain (text_bytes t.bytes)
text-plain t m q =
    let spelled : spells t.kind t.bytes ≡ true = (and_parts (spells t.kind t.bytes) (is_short t.kind t.bytes) q).0 in
    spelled-plain t.bytes (subst (λ k. spells k t.bytes ≡ true) (text-kind t.kind m) spelled)

-- The token of a name is a name and no reserved word.
pub name-free : (t : Lexeme) → matches name t ≡ true → is_real t ≡ true → IsFreeName t.bytes
name-free t m q =
    let spelled : spells t.kind t.bytes ≡ true = (and_parts (spells t.kind t.bytes) (is_short t.kind t.bytes) q).0 in
    let both = subst (λ k. spells k t.bytes ≡ true) (name-kind t.kind m) spelled in
    ((is_name-is t.bytes).0 ((and_parts (is_name t.bytes) (not (one_of t.bytes reserved)) both).0), not-true (one_of t.bytes reserved) ((and_parts (is_name t.bytes) (not (one_of t.bytes reserved)) both).1))
