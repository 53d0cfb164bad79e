-- What a form derives, another form says, turned into something else.
use Rattle.std.proofs.Common.{◌≡◌, ℕ, zero, suc, Option, None, List, [], ◌++◌, inl, inr, refl, sym, ◌∙◌, ap, subst, append_assoc}
use Rattle.reo_grammar.specs.Tokens.{Lexeme, Class}
use Rattle.reo_grammar.specs.Grammar.{Derives, Links, Within, Says, line_of}
use Rattle.reo_grammar.specs.Grammar.Grammar.{nothing, both, made, either, chain, lined}
use Rattle.reo_trees.specs.Forms.{FormOf, word, name_form, ◌▸◌, ◌◂◌}
use Rattle.reo_trees.specs.Rules.{circuit_rules}
use Rattle.reo_syntax.proofs.Says.{says-nothing, says-both, says-made, says-left, says-right, says-first, says-more, says-lined}

-- The tokens say something in this relation to the value.
abbrev pub SaysBy : {A B : Type 0} → FormOf B → (A → B → Type 0) → List Lexeme → A → Type 0
SaysBy {B = B} h R ts x = (y : B) × Says circuit_rules h ts y × R x y

module _ (k : ℕ) where
  pub record Turned {A B : Type 0} (g : FormOf A) (h : FormOf B) (R : A → B → Type 0) : Type 0 where
    pub at : (ts : List Lexeme) (x : A) → Derives (Within circuit_rules k) g ts x → SaysBy h R ts x

  -- It is said as it is.
  pub turned-same : {A : Type 0} {g : FormOf A} → Turned g g (λ x y. x ≡ y)
  turned-same = record { at = λ ts x d. (x, (k, d), refl) }

  pub turned-nothing : {A B : Type 0} {x : A} {y : B} (R : A → B → Type 0) → R x y → Turned (nothing x) (nothing y) R
  turned-nothing {y = y} R r = record { at = λ ts z d. rw (d.0, ← d.1) ((y, says-nothing circuit_rules y, r)) }

  pub turned-both : {A B C D E F : Type 0} {f : A → B → C} {f' : D → E → F} {g : FormOf A} {h : FormOf B} {g' : FormOf D} {h' : FormOf E} {R : A → D → Type 0} {S : B → E → Type 0} (T : C → F → Type 0)
      → Turned g g' R → Turned h h' S → ((x : A) (x' : D) (y : B) (y' : E) → R x x' → S y y' → T (f x y) (f' x' y')) → Turned (both f g h) (both f' g' h') T
  turned-both {f = f} {f' = f'} {g = g} {h = h} {g' = g'} {h' = h'} T s t e = record { at = at }
    where
      at : (ts : List Lexeme) (z : _) → Derives (Within circuit_rules k) (both f g h) ts z → SaysBy (both f' g' h') T ts z
      at ts z (a, b, x, y, i, d, j, q) =
          let (x2, m, r) = s.at a x d in
          let (y2, n, p) = t.at b y j in
          rw (i, ← q) ((f' x2 y2, says-both circuit_rules f' g' h' a b x2 y2 m n, e x x2 y y2 r p))

  pub turned-left : {A B C : Type 0} {g : FormOf A} {g' : FormOf B} {h : FormOf C} (R : A → B → Type 0) → Turned g g' R → Turned (g ◂ h) (g' ◂ h) R
  turned-left R s = turned-both R s turned-same (λ x x2 y y2 r p. r)

  pub turned-right : {A B C : Type 0} {h : FormOf C} {g : FormOf A} {g' : FormOf B} (R : A → B → Type 0) → Turned g g' R → Turned (h ▸ g) (h ▸ g') R
  turned-right R s = turned-both R turned-same s (λ x x2 y y2 r p. p)

  pub turned-made : {A B C D : Type 0} {f : A → B} {f' : C → D} {g : FormOf A} {g' : FormOf C} {R : A → C → Type 0} (T : B → D → Type 0)
      → Turned g g' R → ((x : A) (y : C) → R x y → T (f x) (f' y)) → Turned (made f g) (made f' g') T
  turned-made {f = f} {f' = f'} {g' = g'} T s e = record { at = λ ts z d. let (y, m, r) = s.at ts d.0 d.1 in rw (← d.2) ((f' y, says-made circuit_rules f' g' ts y m, e d.0 y r)) }

  pub turned-lined : {A B C D : Type 0} {f : ℕ → A → B} {f' : ℕ → C → D} {g : FormOf A} {g' : FormOf C} {R : A → C → Type 0} (T : B → D → Type 0)
      → Turned g g' R → ((l : ℕ) (x : A) (y : C) → R x y → T (f l x) (f' l y)) → Turned (lined f g) (lined f' g') T
  turned-lined {f = f} {f' = f'} {g' = g'} T s e = record { at = λ ts z d. let (y, m, r) = s.at ts d.0 d.1 in rw (← d.2) ((f' (line_of ts) y, says-lined circuit_rules f' g' ts y m, e (line_of ts) d.0 y r)) }

  pub turned-either : {A B : Type 0} {c c' : Class} {g h : FormOf A} {g' h' : FormOf B} {R : A → B → Type 0} → Turned g g' R → Turned h h' R → Turned (either c g h) (either c' g' h') R
  turned-either {c = c} {c' = c'} {g = g} {h = h} {g' = g'} {h' = h'} {R = R} s t = record { at = at }
    where
      at : (ts : List Lexeme) (x : _) → Derives (Within circuit_rules k) (either c g h) ts x → SaysBy (either c' g' h') R ts x
      at ts x (inl d) = let (y, m, r) = s.at ts x d in (y, says-left circuit_rules c' g' h' ts y m, r)
      at ts x (inr d) = let (y, m, r) = t.at ts x d in (y, says-right circuit_rules c' g' h' ts y m, r)

  pub turned-first : {A B : Type 0} {c : Class} {g : FormOf A} {g' h : FormOf B} {R : A → B → Type 0} → Turned g g' R → Turned g (either c g' h) R
  turned-first {c = c} {g' = g'} {h = h} s = record { at = λ ts x d. let (y, m, r) = s.at ts x d in (y, says-left circuit_rules c g' h ts y m, r) }

  pub turned-chain : {A B C D : Type 0} {f : A → B → A} {f' : C → D → C} {c c' : Class} {g : FormOf A} {h : FormOf B} {g' : FormOf C} {h' : FormOf D} (R : A → C → Type 0) {S : B → D → Type 0}
      → Turned g g' R → Turned h h' S → ((x : A) (x' : C) (y : B) (y' : D) → R x x' → S y y' → R (f x y) (f' x' y')) → Turned (chain f c g h) (chain f' c' g' h') R
  turned-chain {f = f} {f' = f'} {c' = c'} {g = g} {h = h} {g' = g'} {h' = h'} R s t e = record { at = λ ts z d. links d.0 ts z d.1 }
    where
      links : (n : ℕ) (ts : List Lexeme) (z : _) → Links f (Derives (Within circuit_rules k) g) (Derives (Within circuit_rules k) h) n ts z → SaysBy (chain f' c' g' h') R ts z
      links zero ts z d = let (y, m, r) = s.at ts z d in (y, says-first circuit_rules f' c' g' h' ts y m, r)
      links (suc n) ts z (a, b, x, y, i, l, d, q) =
          let (x2, m, r) = links n a x l in
          let (y2, o, p) = t.at b y d in
          rw (i, ← q) ((f' x2 y2, says-more circuit_rules f' c' g' h' a b x2 y2 m o, e x x2 y y2 r p))

  -- A name with a sign behind it, where something that may be left out stands between them.
  pub turned-behind : {O X Y C D : Type 0} {b : List ℕ} {F : List ℕ → X → C} {G : Option O → Y → List ℕ → D} {g : FormOf X} {g' : FormOf Y} {o : FormOf (Option O)} {R : X → Y → Type 0} (T : C → D → Type 0)
      → Says circuit_rules o [] None → Turned g g' R → ((n : List ℕ) (x : X) (y : Y) → R x y → T (F n x) (G None y n))
      → Turned (both F (name_form ◂ word b) g) (both (λ n (f : List ℕ → D). f n) name_form (both G (o ◂ word b) g')) T
  turned-behind {O = O} {D = D} {b = w} {F = F} {G = G} {g = g} {g' = g'} {o = o} T none s e = record { at = at }
    where
      at : (ts : List Lexeme) (z : _) → Derives (Within circuit_rules k) (both F (name_form ◂ word w) g) ts z → SaysBy (both (λ n (f : List ℕ → D). f n) name_form (both G (o ◂ word w) g')) T ts z
      at ts z (a, b, n, x, i, (c, d, m, v, j, p, q, h), t, l) =
          let (y, u, r) = s.at b x t in
          let signed : Says circuit_rules (o ◂ word w) d None = says-both circuit_rules {C = Option O} (λ x y. x) o (word w) [] d None v none (k, q) in
          let behind : Says circuit_rules (both G (o ◂ word w) g') (d ++ b) (G None y) = says-both circuit_rules G (o ◂ word w) g' d b None y signed u in
          let whole : Says circuit_rules (both (λ n (f : List ℕ → D). f n) name_form (both G (o ◂ word w) g')) (c ++ (d ++ b)) (G None y m)
          = says-both circuit_rules {C = D} (λ n (f : List ℕ → D). f n) name_form (both G (o ◂ word w) g') c (d ++ b) m (G None y) (k, p) behind in (
            G None y m,
            subst (λ l. Says circuit_rules (both (λ n (f : List ℕ → D). f n) name_form (both G (o ◂ word w) g')) l (G None y m)) (sym (i ∙ ap (λ l. l ++ b) j ∙ append_assoc c d b)) whole,
            subst (λ z. T z (G None y m)) (ap (λ n. F n x) h ∙ l) (e m x y r),
          )
