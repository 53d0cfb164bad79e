-- How texts that are put together are read.
use Rattle.std.proofs.Common.{◌≡◌, ℕ, Bool, true, ◌&&◌, not, List, [], ◌∷◌, ◌++◌, refl, sym, ◌∙◌, ap, subst, append-nil, nat_le}
use Rattle.std.proofs.lemmas.Bool.{and_parts, and_from}
use Rattle.std.specs.List.{list_all}
use Rattle.reo_values.specs.Names.{is_name}
use Rattle.reo_grammar.specs.declared.kind.TokenKind.TheVariants as kinds
use Rattle.reo_grammar.specs.Bytes.{one_of}
use Rattle.reo_grammar.specs.Spelling.{reserved}
use Rattle.reo_grammar.specs.Tokens.{Lexeme, Class, matches, is_real, Alike, number_from}
use Rattle.reo_grammar.specs.Tokens.Class.{fixed, name, number}
use Rattle.reo_grammar.specs.Conditions.{fixed_kind, fixed_token}
use Rattle.reo_grammar.specs.Grammar.{Grammar, Says, line_of}
use Rattle.reo_grammar.specs.Grammar.Grammar.{nothing, token, both, made, either, chain, lined, rule}
use Rattle.reo_grammar.proofs.Lines.{matches-alike, parts}
use Rattle.reo_lexer.specs.Gaps.{is_space}
use Rattle.reo_lexer.specs.Gaps.IsGap.{no_gap}
use Rattle.reo_lexer.specs.Lexing.{IsTokens, lexemes_of}
use Rattle.reo_lexer.specs.declared.token.Token.{Token}
use Rattle.reo_lexer.proofs.Cut.{is_cut}
use Rattle.reo_syntax.proofs.Row.{Row, row-append, gap-row, token-row, row-tokens}
use Rattle.reo_syntax.proofs.Says.{says-nothing, says-token, says-both, says-made, says-left, says-right, says-first, says-more, says-lined, says-rule}
use Rattle.reo_syntax.proofs.Again.{alike-none, blanks}
use Rattle.reo_gen.proofs.laws.Heights.{Height, height, over, behind, is_low, AreLow, low-append, behind-append, low-alike}

-- The tokens say something like this.
abbrev pub Said : {Ref : Type 0} {tree : Ref → Type 0} {A : Type 0} (rules : (r : Ref) → Grammar Ref tree (tree r)) → Grammar Ref tree A → List Lexeme → (A → Type 0) → Type 0
Said {A = A} rules g vs S = (y : A) × Says rules g vs y × S y

-- A text, with a rest behind it, has tokens that say something like this, whatever their lines; and from the one height they lead to the other.
pub record Reads {Ref : Type 0} {tree : Ref → Type 0} {A : Type 0} (rules : (r : Ref) → Grammar Ref tree (tree r)) (g : Grammar Ref tree A) (bytes r : List ℕ) (S : A → Type 0) (h k : Height) : Type 0 where
  pub us : List Lexeme
  pub row : Row bytes us r
  pub low : AreLow h us
  pub ends : behind h us ≡ k
  pub says : (vs : List Lexeme) → Alike us vs → Said rules g vs S

alike-one : {Ref : Type 0} {tree : Ref → Type 0} (rules : (r : Ref) → Grammar Ref tree (tree r)) (c : Class) (u : Lexeme) (vs : List Lexeme) → matches c u ≡ true → Alike (u ∷ []) vs → Said rules (token c) vs (λ x. u.bytes ≡ x.bytes)
alike-one rules c u [] m h = absurd h
alike-one rules c u (v ∷ []) m (k, b, h) = (v, says-token rules c v (matches-alike c u v k b ∙ m), b)
alike-one rules c u (v ∷ w ∷ vs) m (k, b, h) = absurd h

-- The word or sign is one that texts have, the blanks are blanks, and not too much is open.
abbrev pub is_fit : Height → List ℕ → List ℕ → Bool
is_fit h b gap = is_real (fixed_token b) && (matches (fixed b) (fixed_token b) && (list_all is_space gap && is_low h (fixed_token b)))

-- Bytes that are a name.
pub record IsNamed (b : List ℕ) : Type 0 where
  pub spelled : is_name b ≡ true
  pub free : not (one_of b reserved) ≡ true

abbrev name_token : List ℕ → Lexeme
name_token b = record { kind = kinds.Name; bytes = b; line = 0 }

module _ {Ref : Type 0} {tree : Ref → Type 0} {rules : (r : Ref) → Grammar Ref tree (tree r)} where
  -- The same text for another form.
  pub reads-else : {A B : Type 0} {g : Grammar Ref tree A} {f : Grammar Ref tree B} {a r : List ℕ} {S : A → Type 0} {U : B → Type 0} {h k : Height}
      → Reads rules g a r S h k → ((vs : List Lexeme) → Said rules g vs S → Said rules f vs U) → Reads rules f a r U h k
  reads-else x by = record { us = x.us; row = x.row; low = x.low; ends = x.ends; says = λ vs i. by vs (x.says vs i) }

  pub reads-nothing : {A : Type 0} (x : A) (r : List ℕ) (S : A → Type 0) (h : Height) → S x → Reads rules (nothing x) [] r S h h
  reads-nothing x r S h s = record { us = []; row = no_gap; low = tt; ends = refl; says = λ vs i. (x, subst (λ l. Says rules (nothing x) l x) (sym (alike-none vs i)) (says-nothing rules x), s) }

  -- Two texts, one behind the other.
  pub reads-two : {A B C : Type 0} {g : Grammar Ref tree A} {f : Grammar Ref tree B} {e : Grammar Ref tree C} {a b r : List ℕ} {S : A → Type 0} {T : B → Type 0} {U : C → Type 0} {h k l : Height}
      → Reads rules g a (b ++ r) S h k → Reads rules f b r T k l → ((c d : List Lexeme) → Said rules g c S → Said rules f d T → Said rules e (c ++ d) U) → Reads rules e (a ++ b) r U h l
  reads-two {e = e} {a = a} {b = b} {r = r} {U = U} {h = h} x y by = record {
    us = x.us ++ y.us;
    row = row-append a b x.us y.us r x.row y.row;
    low = low-append h x.us y.us x.low (subst (λ z. AreLow z y.us) (sym x.ends) y.low);
    ends = behind-append h x.us y.us ∙ ap (λ z. behind z y.us) x.ends ∙ y.ends;
    says = λ vs i. let (c, d, w, p, q) = parts x.us y.us vs i in subst (λ z. Said rules e z U) (sym w) (by c d (x.says c p) (y.says d q));
  }

  pub reads-both : {A B C : Type 0} {f : A → B → C} {g : Grammar Ref tree A} {e : Grammar Ref tree B} {a b r : List ℕ} {S : A → Type 0} {T : B → Type 0} {h k l : Height} (U : C → Type 0)
      → Reads rules g a (b ++ r) S h k → Reads rules e b r T k l → ((x : A) (y : B) → S x → T y → U (f x y)) → Reads rules (both f g e) (a ++ b) r U h l
  reads-both {f = f} {g = g} {e = e} {S = S} {T = T} U x y by = reads-two x y (λ c d p q. so c d p q)
    where
      so : (c d : List Lexeme) → Said rules g c S → Said rules e d T → Said rules (both f g e) (c ++ d) U
      so c d (p, s, m) (q, t, n) = (f p q, says-both rules f g e c d p q s t, by p q m n)

  pub reads-more : {A B : Type 0} {f : A → B → A} {c : Class} {g : Grammar Ref tree A} {e : Grammar Ref tree B} {a b r : List ℕ} {S : A → Type 0} {T : B → Type 0} {h k l : Height} (U : A → Type 0)
      → Reads rules (chain f c g e) a (b ++ r) S h k → Reads rules e b r T k l → ((x : A) (y : B) → S x → T y → U (f x y)) → Reads rules (chain f c g e) (a ++ b) r U h l
  reads-more {f = f} {c = c} {g = g} {e = e} {S = S} {T = T} U x y by = reads-two x y (λ i j p q. so i j p q)
    where
      so : (i j : List Lexeme) → Said rules (chain f c g e) i S → Said rules e j T → Said rules (chain f c g e) (i ++ j) U
      so i j (p, s, m) (q, t, n) = (f p q, says-more rules f c g e i j p q s t, by p q m n)

  pub reads-first : {A B : Type 0} {f : A → B → A} {c : Class} {g : Grammar Ref tree A} {e : Grammar Ref tree B} {a r : List ℕ} {S : A → Type 0} {h k : Height} → Reads rules g a r S h k → Reads rules (chain f c g e) a r S h k
  reads-first {f = f} {c = c} {g = g} {e = e} x = reads-else x (λ vs d. (d.0, says-first rules f c g e vs d.0 d.1, d.2))

  pub reads-left : {A : Type 0} {c : Class} {g e : Grammar Ref tree A} {a r : List ℕ} {S : A → Type 0} {h k : Height} → Reads rules g a r S h k → Reads rules (either c g e) a r S h k
  reads-left {c = c} {g = g} {e = e} x = reads-else x (λ vs d. (d.0, says-left rules c g e vs d.0 d.1, d.2))

  pub reads-right : {A : Type 0} {c : Class} {g e : Grammar Ref tree A} {a r : List ℕ} {S : A → Type 0} {h k : Height} → Reads rules e a r S h k → Reads rules (either c g e) a r S h k
  reads-right {c = c} {g = g} {e = e} x = reads-else x (λ vs d. (d.0, says-right rules c g e vs d.0 d.1, d.2))

  pub reads-made : {A B : Type 0} {f : A → B} {g : Grammar Ref tree A} {a r : List ℕ} {S : A → Type 0} {h k : Height} (U : B → Type 0)
      → Reads rules g a r S h k → ((x : A) → S x → U (f x)) → Reads rules (made f g) a r U h k
  reads-made {f = f} {g = g} U x by = reads-else x (λ vs d. (f d.0, says-made rules f g vs d.0 d.1, by d.0 d.2))

  pub reads-lined : {A B : Type 0} {f : ℕ → A → B} {g : Grammar Ref tree A} {a r : List ℕ} {S : A → Type 0} {h k : Height} (U : B → Type 0)
      → Reads rules g a r S h k → ((l : ℕ) (x : A) → S x → U (f l x)) → Reads rules (lined f g) a r U h k
  reads-lined {f = f} {g = g} U x by = reads-else x (λ vs d. (f (line_of vs) d.0, says-lined rules f g vs d.0 d.1, by (line_of vs) d.0 d.2))

  pub reads-rule : {a r : List ℕ} {h k : Height} (n : Ref) {S : tree n → Type 0} → Reads rules (rules n) a r S h k → Reads rules (rule n) a r S h k
  reads-rule n x = reads-else x (λ vs d. (d.0, says-rule rules n vs d.0 d.1, d.2))

  pub reads-text : {A : Type 0} {g : Grammar Ref tree A} {a b r : List ℕ} {S : A → Type 0} {h k : Height} → a ≡ b → Reads rules g a r S h k → Reads rules g b r S h k
  reads-text {r = r} e x = record { us = x.us; row = subst (λ l. Row l x.us r) e x.row; low = x.low; ends = x.ends; says = x.says }

  -- A token, and blanks behind it.
  pub reads-token : (c : Class) (u : Lexeme) (gap r : List ℕ) (h : Height) → matches c u ≡ true → is_real u ≡ true → list_all is_space gap ≡ true → is_cut u.kind u.bytes (gap ++ r) ≡ true → is_low h u ≡ true
      → Reads rules (token c) (u.bytes ++ gap) r (λ x. u.bytes ≡ x.bytes) h (over h u)
  reads-token c u gap r h m q s i low = record {
    us = u ∷ [];
    row = row-append u.bytes gap (u ∷ []) [] r (token-row u (gap ++ r) q i) (blanks gap s);
    low = (low, tt);
    ends = refl;
    says = λ vs k. alike-one rules c u vs m k;
  }

  pub reads-word : (b gap r : List ℕ) (h : Height) → is_fit h b gap ≡ true → is_cut (fixed_kind b) b (gap ++ r) ≡ true
      → Reads rules (made (λ t. tt {0}) (token (fixed b))) (b ++ gap) r (λ x. Unit {0}) h (over h (fixed_token b))
  reads-word b gap r h f i =
      let p : is_real (fixed_token b) ≡ true = (and_parts _ _ f).0 in
      let f1 = (and_parts (is_real (fixed_token b)) _ f).1 in
      let q : matches (fixed b) (fixed_token b) ≡ true = (and_parts _ _ f1).0 in
      let f2 = (and_parts (matches (fixed b) (fixed_token b)) _ f1).1 in
      reads-made (λ x. Unit {0}) (reads-token (fixed b) (fixed_token b) gap r h q p ((and_parts _ _ f2).0) i ((and_parts (list_all is_space gap) _ f2).1)) (λ x e. tt {0})

  pub reads-name : (b gap r : List ℕ) (h : Height) → IsNamed b → list_all is_space gap ≡ true → is_cut kinds.Name b (gap ++ r) ≡ true → (nat_le h.parentheses 64 && nat_le h.braces 16) ≡ true
      → Reads rules (made (λ t. t.bytes) (token name)) (b ++ gap) r (λ n. b ≡ n) h h
  reads-name b gap r h n s i low =
      reads-made (λ x. b ≡ x) (reads-token name (name_token b) gap r h refl (and_from (is_name b && not (one_of b reserved)) true (and_from (is_name b) (not (one_of b reserved)) n.spelled n.free) refl) s i low) (λ x e. e)

  -- The digits of a number.
  pub reads-number : (n low high : ℕ) (b gap r : List ℕ) (h : Height) → matches (number low high) (record { kind = kinds.Number; bytes = b; line = 0 }) ≡ true → is_real (record { kind = kinds.Number; bytes = b; line = 0 }) ≡ true
      → number_from 0 b ≡ n → list_all is_space gap ≡ true → is_cut kinds.Number b (gap ++ r) ≡ true → (nat_le h.parentheses 64 && nat_le h.braces 16) ≡ true
      → Reads rules (made (λ t. number_from 0 t.bytes) (token (number low high))) (b ++ gap) r (λ m. m ≡ n) h h
  reads-number n low high b gap r h m q v s i fit = reads-made (λ m. m ≡ n) (reads-token (number low high) (record { kind = kinds.Number; bytes = b; line = 0 }) gap r h m q s i fit) (λ t e. sym (ap (number_from 0) e) ∙ v)

  -- Blanks before.
  pub reads-gap : {A : Type 0} {g : Grammar Ref tree A} {a r : List ℕ} {S : A → Type 0} {h k : Height} (gap : List ℕ) → list_all is_space gap ≡ true → Reads rules g a r S h k → Reads rules g (gap ++ a) r S h k
  reads-gap {a = a} {r = r} gap s x = record { us = x.us; row = gap-row gap a x.us r (blanks gap s) x.row; low = x.low; ends = x.ends; says = x.says }

  -- Blanks behind.
  pub reads-behind : {A : Type 0} {g : Grammar Ref tree A} {a r : List ℕ} {S : A → Type 0} {h k : Height} (gap : List ℕ) → list_all is_space gap ≡ true → Reads rules g a (gap ++ r) S h k → Reads rules g (a ++ gap) r S h k
  reads-behind {a = a} {r = r} gap s x = record { us = x.us; row = subst (λ l. Row (a ++ gap) l r) (append-nil x.us) (row-append a gap x.us [] r x.row (blanks gap s)); low = x.low; ends = x.ends; says = x.says }

  -- A whole text has tokens that say something like this, and are low.
  pub reads-all : {A : Type 0} {g : Grammar Ref tree A} {text : List ℕ} {S : A → Type 0} {k : Height} → Reads rules g text [] S (height 0 0) k
      → (ts : List Token) × IsTokens text ts × AreLow (height 0 0) (lexemes_of text ts) × Said rules g (lexemes_of text ts) S
  reads-all {text = text} x =
      let (us, i, a) = row-tokens text x.us x.row in
      (us, i, low-alike (height 0 0) x.us (lexemes_of text us) a x.low, x.says (lexemes_of text us) a)
