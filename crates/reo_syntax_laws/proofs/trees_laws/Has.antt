-- What holds of every tree that a form derives.
use Rattle.std.proofs.Common.{arith, ◌≡◌, ℕ, ◌≤◌, true, ◌&&◌, nat_le, List}
use Rattle.std.proofs.lemmas.Bool.{and_parts}
use Rattle.std.specs.List.{All}
use Rattle.std.proofs.lemmas.Bool.Decides.{nat_tests}
use Rattle.reo_values.specs.Kind.{IsPlain}
use Rattle.reo_grammar.specs.Tokens.{Lexeme, Class, AreReal, number_from, is_number}
use Rattle.reo_grammar.specs.Grammar.{Within}
use Rattle.reo_grammar.specs.Grammar.Grammar.{nothing, both, made, either, chain, lined, rule}
use Rattle.reo_trees.specs.Forms.{Rule, tree_of, FormOf, word_as, name_form, number_form, text_form, ◌▸◌, ◌◂◌, comma_form}
use Rattle.reo_trees.specs.Forms.Rule.{type_rule, literal_rule, term_rule, unary_rule, looped_rule}
use Rattle.reo_trees.specs.Rules.{circuit_rules}
use Rattle.reo_syntax_laws.proofs.Seen.{World, See, see-then, see-both, see-made, see-either, see-lined, see-nothing, see-token, see-chain, see-rule}
use Rattle.reo_syntax_laws.specs.trees_laws.Spelled.{IsFreeName, IsSpelledShape, IsSpelledLiteral, IsSpelledTerm}
use Rattle.reo_syntax_laws.proofs.trees_laws.Lists.{all-one, all-more}
use Rattle.reo_syntax_laws.proofs.trees_laws.Quoted.{name-free, text-plain}

-- What is claimed of the tree of each rule.
abbrev pub Claim : (r : Rule) → tree_of r → Type 0
Claim type_rule x = IsSpelledShape x.shape
Claim literal_rule x = IsSpelledLiteral x
Claim term_rule x = IsSpelledTerm x.form
Claim unary_rule x = IsSpelledTerm x.term.form
Claim looped_rule x = Unit {0}

-- It holds with rules nested at most so deep.
abbrev pub Each : ℕ → Type 0
Each k = (r : Rule) (ts : List Lexeme) (x : tree_of r) → AreReal ts → Within circuit_rules k r ts x → Claim r x

abbrev pub world : (k : ℕ) → Each k → World
world k each = record { Derived = Within circuit_rules k; Holds = λ r ts x. Claim r x; each = each }

-- It holds of what the form derives from real tokens.
abbrev pub Has : World → {A : Type 0} → FormOf A → (A → Type 0) → Type 0
Has w g S = See w g (λ ts x. S x)

pub any : {w : World} {A : Type 0} {g : FormOf A} → Has w g (λ x. Unit {0})
any = record { at = λ ts x q d. tt }

pub has-both : {w : World} {A B C : Type 0} {f : A → B → C} {g : FormOf A} {h : FormOf B} (S : A → Type 0) (T : B → Type 0) (U : C → Type 0)
    → Has w g S → Has w h T → ((x : A) (y : B) → S x → T y → U (f x y)) → Has w (both f g h) U
has-both S T U s t k = see-both (see-then s (λ a x p. see-then t (λ b y q. k x y p q)))

pub has-left : {w : World} {A B : Type 0} {g : FormOf A} {h : FormOf B} (S : A → Type 0) → Has w g S → Has w (g ◂ h) S
has-left S s = has-both S (λ y. Unit {0}) S s any (λ x y p q. p)

pub has-right : {w : World} {A B : Type 0} {g : FormOf A} {h : FormOf B} (T : B → Type 0) → Has w h T → Has w (g ▸ h) T
has-right T t = has-both (λ x. Unit {0}) T T any t (λ x y p q. q)

pub has-made : {w : World} {A B : Type 0} {f : A → B} {g : FormOf A} (U : B → Type 0) → Has w g (λ x. U (f x)) → Has w (made f g) U
has-made U s = see-made s

pub has-lined : {w : World} {A B : Type 0} {f : ℕ → A → B} {g : FormOf A} (S : A → Type 0) (U : B → Type 0)
    → Has w g S → ((l : ℕ) (x : A) → S x → U (f l x)) → Has w (lined f g) U
has-lined S U s k = see-lined (see-then s (λ a x p. k _ x p))

pub has-either : {w : World} {A : Type 0} {c : Class} {g h : FormOf A} (S : A → Type 0) → Has w g S → Has w h S → Has w (either c g h) S
has-either S s t = see-either s t

pub has-nothing : {w : World} {A : Type 0} {x : A} (S : A → Type 0) → S x → Has w (nothing x) S
has-nothing S s = see-nothing s

pub has-chain : {w : World} {A B : Type 0} {f : A → B → A} {c : Class} {g : FormOf A} {h : FormOf B} (S : A → Type 0) (T : B → Type 0)
    → Has w g S → Has w h T → ((x : A) (y : B) → S x → T y → S (f x y)) → Has w (chain f c g h) S
has-chain S T s t k = see-chain s (λ a x p. see-then t (λ b y q. k x y p q))

pub has-word-as : {w : World} {A : Type 0} {v : A} {b : List ℕ} (S : A → Type 0) → S v → Has w (word_as v b) S
has-word-as S s = record { at = λ ts x q d. Rattle.std.proofs.Common.subst S d.2 s }

pub has-name : {w : World} → Has w name_form IsFreeName
has-name = see-made (see-token (λ t m q. name-free t m q))

pub has-text : {w : World} → Has w text_form (All IsPlain)
has-text = see-made (see-token (λ t m q. text-plain t m q))

-- A number from the first to the second.
abbrev pub Lies : ℕ → ℕ → ℕ → Type 0
Lies low high n = (low ≤ n) × (n ≤ high)

in-order : (low high n : ℕ) → (nat_le low n && nat_le n high) ≡ true → Lies low high n
in-order low high n h =
    let a = (and_parts (nat_le low n) (nat_le n high) h).0 in
    let b = (and_parts (nat_le low n) (nat_le n high) h).1 in
    (grind (arith, nat_tests), grind (arith, nat_tests))

pub has-number : {w : World} (low high : ℕ) → Has w (number_form low high) (Lies low high)
has-number low high = see-made (see-token (λ t m q. in-order low high (number_from 0 t.bytes) ((and_parts (is_number t.kind) _ m).1)))

-- One part or more, with commas between them.
pub has-comma : {w : World} {A : Type 0} {g : FormOf A} (S : A → Type 0) → Has w g S → Has w (comma_form g) (All S)
has-comma S s = has-chain (All S) S (has-made (All S) (see-then s (λ a x p. all-one S x p))) (has-right S s) (λ xs y all here. all-more S xs y all here)

module _ (k : ℕ) (each : Each k) where
  pub has-type : Has (world k each) (rule type_rule) (λ x. IsSpelledShape x.shape)
  has-type = see-rule {r = type_rule} (λ a x h. h)

  pub has-literal : Has (world k each) (rule literal_rule) IsSpelledLiteral
  has-literal = see-rule {r = literal_rule} (λ a x h. h)

  pub has-term : Has (world k each) (rule term_rule) (λ x. IsSpelledTerm x.form)
  has-term = see-rule {r = term_rule} (λ a x h. h)

  pub has-unary : Has (world k each) (rule unary_rule) (λ x. IsSpelledTerm x.term.form)
  has-unary = see-rule {r = unary_rule} (λ a x h. h)
