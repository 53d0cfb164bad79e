-- What holds of the tokens of a form, by those of its parts.
use Rattle.std.proofs.Common.{◌≡◌, ℕ, zero, suc, Bool, true, ◌&&◌, List, [], ◌∷◌, ◌++◌, inl, inr, sym, subst}
use Rattle.std.proofs.lemmas.Bool.{and_parts}
use Rattle.reo_grammar.specs.Tokens.{Lexeme, Class, matches}
use Rattle.reo_grammar.specs.Grammar.{Derives, Links}
use Rattle.reo_grammar.specs.Grammar.Grammar.{nothing, token, both, made, either, chain, lined, rule}
use Rattle.reo_grammar.specs.Sight.{apart}
use Rattle.reo_grammar.proofs.Classes.{apart-no}
use Rattle.reo_trees.specs.Forms.{Rule, tree_of, FormOf}

-- No token of the form is of the class, but those of the rules that are told.
abbrev pub avoids : {A : Type 0} → Class → (Rule → Bool) → FormOf A → Bool
avoids c told (nothing x) = true
avoids c told (token d) = apart d c
avoids c told (both f g h) = avoids c told g && avoids c told h
avoids c told (made f g) = avoids c told g
avoids c told (either d g h) = avoids c told g && avoids c told h
avoids c told (chain f d g h) = avoids c told g && avoids c told h
avoids c told (lined f g) = avoids c told g
avoids c told (rule r) = told r

-- A fact on tokens that holds of two lists together, of each token that is not of the class, and of those of the told rules.
pub record Kept (R : (r : Rule) → List Lexeme → tree_of r → Type 0) (c : Class) (told : Rule → Bool) (P : List Lexeme → Type 0) : Type 0 where
  pub none : P []
  pub two : (a b : List Lexeme) → P a → P b → P (a ++ b)
  pub one : (t : Lexeme) → (matches c t ≡ true → ⊥) → P (t ∷ [])
  pub each : (r : Rule) (ts : List Lexeme) (x : tree_of r) → told r ≡ true → R r ts x → P ts

module _ {R : (r : Rule) → List Lexeme → tree_of r → Type 0} {c : Class} {told : Rule → Bool} {P : List Lexeme → Type 0} (k : Kept R c told P) where
  links : {A B : Type 0} (f : A → B → A) (D : List Lexeme → A → Type 0) (E : List Lexeme → B → Type 0) → ((ts : List Lexeme) (x : A) → D ts x → P ts) → ((ts : List Lexeme) (y : B) → E ts y → P ts)
      → (n : ℕ) (ts : List Lexeme) (x : A) → Links f D E n ts x → P ts
  links f D E p q zero ts x l = p ts x l
  links f D E p q (suc n) ts x (a, b, y, z, w, l, e, v) = subst P (sym w) (k.two a b (links f D E p q n a y l) (q b z e))

  pub parts : {A : Type 0} (g : FormOf A) → avoids c told g ≡ true → (ts : List Lexeme) (x : A) → Derives R g ts x → P ts
  parts (nothing y) h ts x d = subst P (sym d.0) k.none
  parts (token e) h ts x d = subst P (sym d.0) (k.one x (λ m. apart-no e c x h d.1 m))
  parts (both f g i) h ts x (a, b, y, z, w, d, e, v) = subst P (sym w) (k.two a b (parts g ((and_parts _ _ h).0) a y d) (parts i ((and_parts (avoids c told g) _ h).1) b z e))
  parts (made f g) h ts x (y, d, v) = parts g h ts y d
  parts (either e g i) h ts x (inl d) = parts g ((and_parts _ _ h).0) ts x d
  parts (either e g i) h ts x (inr d) = parts i ((and_parts (avoids c told g) _ h).1) ts x d
  parts (chain f e g i) h ts x (n, l) =
      links f (Derives R g) (Derives R i) (λ us y d. parts g ((and_parts _ _ h).0) us y d) (λ us y d. parts i ((and_parts (avoids c told g) _ h).1) us y d) n ts x l
  parts (lined f g) h ts x (y, d, v) = parts g h ts y d
  parts (rule r) h ts x d = k.each r ts x h d
