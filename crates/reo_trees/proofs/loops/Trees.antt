-- The tokens of items, connectors and programs, and their loops.
use Rattle.std.proofs.Common.{◌≡◌, ◌∙◌, ℕ, zero, suc, Bool, true, false, ◌&&◌, List, [], ◌∷◌, ◌++◌, inl, inr, refl, sym, ap, subst, append_assoc, codes}
use Rattle.std.proofs.lemmas.Bool.{and_parts, or_left}
use Rattle.std.specs.Str.{bytes_eq}
use Rattle.reo_grammar.specs.Tokens.{Lexeme, Class, matches}
use Rattle.reo_grammar.specs.Tokens.Class.{fixed, named}
use Rattle.reo_grammar.specs.Grammar.{Derives, Links, Within}
use Rattle.reo_grammar.specs.Grammar.Grammar.{nothing, token, both, made, either, chain, lined, rule}
use Rattle.reo_grammar.specs.Sight.{firsts, all_apart}
use Rattle.reo_grammar.proofs.Classes.{inside-yes, all_apart-no, false-not}
use Rattle.reo_grammar.proofs.Sound.{never}
use Rattle.reo_grammar.proofs.Complete.{begin}
use Rattle.reo_grammar.proofs.Exact.{begins}
use Rattle.reo_trees.specs.declared.items.Channel.{Channel}
use Rattle.reo_trees.specs.declared.items.Channel.TheVariants as channels
use Rattle.reo_trees.specs.declared.indexes.Index.{Index}
use Rattle.reo_trees.specs.declared.items_two.ItemTwo.{ItemTwo}
use Rattle.reo_trees.specs.declared.items_two.FormTwo.{FormTwo}
use Rattle.reo_trees.specs.declared.items_two.FormTwo.TheVariants as forms
use Rattle.reo_trees.specs.declared.indexes.Ref.{Ref}
use Rattle.reo_trees.specs.Forms.{Rule, tree_of, FormOf, listed, name_form, number_form, word, named_word, ◌◂◌}
use Rattle.reo_trees.specs.Forms.Rule.{type_rule, literal_rule, term_rule, unary_rule, looped_rule}
use Rattle.reo_trees.specs.Channels.{held_form, held_list, plain_between, fifo1_between, fifo_between, filter_between, map_between}
use Rattle.reo_trees.specs.Indexes.{index_form, ref_form}
use Rattle.reo_trees.specs.ItemsTwo.{join_two, use_two, shift_two, variable_two, quota_two, looped_items, loop_form, some_looped}
use Rattle.reo_trees.specs.Rules.{circuit_rules}
use Rattle.reo_trees.specs.Table.{circuit_table}
use Rattle.reo_trees.specs.SaysTwo.{item_starts}
use Rattle.reo_trees.specs.loops.Places.{is_for}
use Rattle.reo_trees.specs.loops.Few.{few_loops}
use Rattle.reo_trees.proofs.loops.Scan.{Calm, calm-two, Shallow, shallow-none, shallow-two, shallow-token, opening, closing}
use Rattle.reo_trees.proofs.loops.Parts.{avoids, parts}
use Rattle.reo_trees.proofs.loops.Placed.{calm_rule, shallow_rule, braces, Claim, Placed, PlacedItems, calm-shallow, placed-simple, placed-loop, placed-none, placed-more}

-- It ends with a `;`, before which no item may begin.
abbrev ends_calm : {A : Type 0} → FormOf A → Bool
ends_calm (both f g h) = (avoids item_starts calm_rule g && ends_calm h)
ends_calm (made f g) = ends_calm g
ends_calm (lined f g) = ends_calm g
ends_calm (token (fixed b)) = bytes_eq b (codes ";")
ends_calm _ = false

module _ (k : ℕ) (claims : (r : Rule) (ts : List Lexeme) (x : tree_of r) → Within circuit_rules k r ts x → Claim r ts x) where
  abbrev R : (r : Rule) → List Lexeme → tree_of r → Type 0
  R = Within circuit_rules k

  calm-each : (r : Rule) (ts : List Lexeme) (x : tree_of r) → calm_rule r ≡ true → R r ts x → Calm ts
  calm-each type_rule ts x h d = absurd (cc)
  calm-each literal_rule ts x h d = claims literal_rule ts x d
  calm-each term_rule ts x h d = claims term_rule ts x d
  calm-each unary_rule ts x h d = claims unary_rule ts x d
  calm-each looped_rule ts x h d = absurd (cc)

  pub calm : {A : Type 0} (g : FormOf A) → avoids item_starts calm_rule g ≡ true → (ts : List Lexeme) (x : A) → Derives R g ts x → Calm ts
  calm g h ts x d = parts (record { none = tt; two = calm-two; one = λ t n. (false-not (matches item_starts t) n, tt); each = calm-each }) g h ts x d

  shallow-each : (r : Rule) (ts : List Lexeme) (x : tree_of r) → shallow_rule r ≡ true → R r ts x → Shallow ts
  shallow-each type_rule ts x h d = claims type_rule ts x d
  shallow-each literal_rule ts x h d = calm-shallow ts (claims literal_rule ts x d)
  shallow-each term_rule ts x h d = calm-shallow ts (claims term_rule ts x d)
  shallow-each unary_rule ts x h d = calm-shallow ts (claims unary_rule ts x d)
  shallow-each looped_rule ts x h d = absurd (cc)

  shallow-one : (t : Lexeme) → (matches braces t ≡ true → ⊥) → Shallow (t ∷ [])
  shallow-one t n = shallow-token t (false-not (matches opening t) (λ e. n (inside-yes opening braces t refl e))) (false-not (matches closing t) (λ e. n (inside-yes closing braces t refl e)))

  pub shallow : {A : Type 0} (g : FormOf A) → avoids braces shallow_rule g ≡ true → (ts : List Lexeme) (x : A) → Derives R g ts x → Shallow ts
  shallow g h ts x d = parts (record { none = shallow-none; two = shallow-two; one = shallow-one; each = shallow-each }) g h ts x d

  -- Calm tokens and a `;`.
  abbrev Ended : List Lexeme → Type 0
  Ended ts = (c : List Lexeme) × (t : Lexeme) × (ts ≡ c ++ t ∷ []) × Calm c × (matches (fixed (codes ";")) t ≡ true)

  ended : {A : Type 0} (g : FormOf A) → ends_calm g ≡ true → (ts : List Lexeme) (x : A) → Derives R g ts x → Ended ts
  ended (both f g h) e ts x (a, b, y, z, w, d1, d2, v) =
      let (c, t, i, m, n) = ended h ((and_parts (avoids item_starts calm_rule g) _ e).1) b z d2 in
      (a ++ c, t, w ∙ ap (λ l. a ++ l) i ∙ sym (append_assoc a c (t ∷ [])), calm-two a c (calm g ((and_parts _ _ e).0) a y d1) m, n)
  ended (made f g) e ts x (y, d, v) = ended g e ts y d
  ended (lined f g) e ts x (y, d, v) = ended g e ts y d
  ended (token (fixed b)) e ts x d =
      let s : b ≡ codes ";" = Rattle.reo_values.proofs.Sequences.same_bytes b (codes ";") e in
      ([], x, d.0, tt, subst (λ z. matches (fixed z) x ≡ true) s d.1)
  ended (token (Rattle.reo_grammar.specs.Tokens.Class.among bs)) e ts x d = absurd (cc)
  ended (token (Rattle.reo_grammar.specs.Tokens.Class.other b)) e ts x d = absurd (cc)
  ended (token Rattle.reo_grammar.specs.Tokens.Class.name) e ts x d = absurd (cc)
  ended (token (named b)) e ts x d = absurd (cc)
  ended (token (Rattle.reo_grammar.specs.Tokens.Class.number l h)) e ts x d = absurd (cc)
  ended (token Rattle.reo_grammar.specs.Tokens.Class.text) e ts x d = absurd (cc)
  ended (nothing y) e ts x d = absurd (cc)
  ended (either c g h) e ts x d = absurd (cc)
  ended (chain f c g h) e ts x d = absurd (cc)
  ended (rule r) e ts x d = absurd (cc)

  first-other : {A : Type 0} (g : FormOf A) → all_apart (firsts (circuit_table.first) g) (named (codes "for") ∷ []) ≡ true → (ts : List Lexeme) (x : A) → Derives R g ts x
      → (s : Lexeme) (u : List Lexeme) → s ∷ u ≡ ts → is_for s ≡ false
  first-other g h ts x d s u e =
      false-not (is_for s) (λ m. all_apart-no (firsts (circuit_table.first) g) (named (codes "for") ∷ []) s h
      (begin (circuit_table.first) R (never (circuit_table.sound) k) (begins circuit_table k) g ts s u x e d) (or_left (is_for s) false m))

  simple : (g : FormOf FormTwo) → ends_calm g ≡ true → all_apart (firsts (circuit_table.first) g) (named (codes "for") ∷ []) ≡ true → (ts : List Lexeme) (f : FormTwo) → Derives R g ts f
      → ((m : ℕ) → few_loops m f ≡ true) → Placed 0 ts f
  simple g e h ts f d few =
      let (c, t, w, m, n) = ended g e ts f d in
      subst (λ l. Placed 0 l f) (sym w) (placed-simple c t f m n (λ s u i. first-other g h ts f d s u (i ∙ sym w)) few)

  joined : (m : ℕ) (c : Channel) (x y : Ref) → few_loops m (join_two c x y) ≡ true
  joined zero c x y = refl
  joined (suc m) c x y = refl

  -- Each of a loop's items.
  few-plain : (m : ℕ) (ts : List Lexeme) (f : FormTwo) → Derives R (plain_between ref_form join_two) ts f → few_loops m f ≡ true
  few-plain m ts f (a, b, c, h, w, d, (p, q, x, y, i, j, l, u), v) = ap (few_loops m) (sym v) ∙ ap (λ (z : Channel → FormTwo). few_loops m (z c)) (sym u) ∙ joined m c x y

  few-use : (m : ℕ) (ts : List Lexeme) (f : FormTwo) → Derives R use_two ts f → few_loops m f ≡ true
  few-use m ts f (a, b, t, g, w, d, (p, q, n, h, i, j, (r, s, x, y, e, o, z, u2), u), v) =
      ap (few_loops m) (sym v) ∙ ap (few_loops m) (sym u) ∙ ap (λ (l : List ℕ → FormTwo). few_loops m (l n)) (sym u2) ∙ by m
    where
      by : (m : ℕ) → few_loops m (forms.Used n x y) ≡ true
      by zero = refl
      by (suc m) = refl

  few-one : {Y : Type 0} (m : ℕ) (join : Y → Channel) (g : FormOf (Unit {0})) (e : FormOf Ref) (h : FormOf Ref) (i : FormOf Y) (j : FormOf (Unit {0})) (ts : List Lexeme) (f : FormTwo)
      → Derives R (both (λ x y. y) g (both (λ x (k : Ref → FormTwo). k x) e (both (λ y t (x : Ref). join_two (join t) x y) h (both (λ x y. x) i j)))) ts f → few_loops m f ≡ true
  few-one m join g e h i j ts f (a, b, t, k, w, d, (p, q, x, l, w2, d2, (r, s, y, z, w3, d3, d4, v3), v2), v) =
      ap (few_loops m) (sym v) ∙ ap (few_loops m) (sym v2) ∙ ap (λ (o : Ref → FormTwo). few_loops m (o x)) (sym v3) ∙ joined m (join z) x y

  few-end : {Y : Type 0} (m : ℕ) (join : Y → Channel) (g : FormOf (Unit {0})) (e : FormOf Ref) (h : FormOf Ref) (i : FormOf (Unit {0})) (o : FormOf Y) (j : FormOf (Unit {0})) (ts : List Lexeme) (f : FormTwo)
      → Derives R (both (λ x y. y) g (both (λ x (k : Ref → FormTwo). k x) e (both (λ y t (x : Ref). join_two (join t) x y) (both (λ x y. x) h i) (both (λ x y. x) o j)))) ts f → few_loops m f ≡ true
  few-end m join g e h i o j ts f (a, b, t, k, w, d, (p, q, x, l, w2, d2, (r, s, y, z, w3, d3, d4, v3), v2), v) =
      ap (few_loops m) (sym v) ∙ ap (few_loops m) (sym v2) ∙ ap (λ (o : Ref → FormTwo). few_loops m (o x)) (sym v3) ∙ joined m (join z) x y

  few-sized : {Y : Type 0} (m : ℕ) (join : ℕ → Y → Channel) (g : FormOf (Unit {0})) (c : FormOf ℕ) (e : FormOf Ref) (h : FormOf Ref) (i : FormOf Y) (j : FormOf (Unit {0})) (ts : List Lexeme) (f : FormTwo)
      → Derives R (both (λ x y. y) g (both (λ n (k : ℕ → FormTwo). k n) c (both (λ x (k : Ref → ℕ → FormTwo). k x) e (both (λ y t (x : Ref) (n : ℕ). join_two (join n t) x y) h (both (λ x y. x) i j))))) ts f → few_loops m f ≡ true
  few-sized m join g c e h i j ts f (a, b, t, k, w, d, (p, q, n, l, w2, d2, (r, s, x, o, w3, d3, (a4, b4, y, z, w4, d4, d5, v4), v3), v2), v) =
      ap (few_loops m) (sym v) ∙ ap (few_loops m) (sym v2) ∙ ap (λ (u : ℕ → FormTwo). few_loops m (u n)) (sym v3) ∙ ap (λ (u : Ref → ℕ → FormTwo). few_loops m (u x n)) (sym v4) ∙ joined m (join n z) x y

  few-quota : (m : ℕ) (ts : List Lexeme) (f : FormTwo) → Derives R quota_two ts f → few_loops m f ≡ true
  few-quota m ts f (a, b, t, k, w, d, (p, q, n, l, w2, d2, (r, s, x, y, w3, d3, d4, v3), v2), v) =
      ap (few_loops m) (sym v) ∙ ap (few_loops m) (sym v2) ∙ ap (λ (u : ℕ → FormTwo). few_loops m (u n)) (sym v3) ∙ joined m (channels.Quota n) x y

  items-placed : (ts : List Lexeme) (is : List ItemTwo) → Derives R looped_items ts is → PlacedItems 0 ts is
  items-placed ts is (n, l) = links n ts is l
    where
      links : (n : ℕ) (ts : List Lexeme) (is : List ItemTwo) → Links listed (Derives R (nothing [])) (Derives R (rule looped_rule)) n ts is → PlacedItems 0 ts is
      links zero ts is (e, v) = subst (λ x. PlacedItems 0 x is) (sym e) (subst (PlacedItems 0 []) v (placed-none 0))
      links (suc n) ts is (a, b, y, z, w, l, d, v) =
          subst (λ x. PlacedItems 0 x is) (sym w) (subst (PlacedItems 0 (a ++ b)) v (placed-more 0 a b y z (links n a y l) (claims looped_rule b z d)))

  loop-placed : (ts : List Lexeme) (f : FormTwo) → Derives R loop_form ts f → Placed 0 ts f
  loop-placed ts f (a1, b1, u1, g1, w1, (t0, (e0, m0), r0), (a2, b2, v, g2, w2, d2, (a3, b3, l, g3, w3, d3, (a4, b4, h, is, w4, (a5, b5, h5, u5, w5, d5, (o, (e6, m6), r6), v5), (a7, b7, is7, u7, w7, d7, (z, (e8, m8), r8), v7), v4), v3), v2), v1) =
      let c : List Lexeme = a2 ++ (a3 ++ a5) in
      let k : Calm c = calm-two a2 (a3 ++ a5) (calm (name_form ◂ word (codes "=")) refl a2 v d2) (calm-two a3 a5 (calm (index_form ◂ word (codes "to")) refl a3 l d3) (calm index_form refl a5 h5 d5)) in
      let p = placed-loop t0 c o a7 z m0 k m6 m8 v l h5 is7 (items-placed a7 is7 d7) in
      let x : forms.Loop v l h5 is7 ≡ f
      = ap (λ y. forms.Loop v l y is7) v5 ∙ ap (λ y. forms.Loop v l h y) v7 ∙ ap (λ (y : Index → List ℕ → FormTwo). y l v) v4 ∙ ap (λ (y : List ℕ → FormTwo). y v) v3 ∙ v2 ∙ v1 in
      let i : ts ≡ t0 ∷ (c ++ (o ∷ (a7 ++ z ∷ [])))
      = w1 ∙ ap (λ y. y ++ b1) e0 ∙ ap (λ y. t0 ∷ y) (w2 ∙ ap (λ y. a2 ++ y) (w3 ∙ ap (λ y. a3 ++ y) (w4 ∙ ap (λ y. y ++ b4) (w5 ∙ ap (λ y. a5 ++ y) e6) ∙ ap (λ y. (a5 ++ o ∷ []) ++ y) (w7 ∙ ap (λ y. a7 ++ y) e8)))
      ∙ regroup a2 a3 a5 o (a7 ++ z ∷ [])) in
      subst (λ y. Placed 0 y f) (sym i) (subst (Placed 0 (t0 ∷ (c ++ (o ∷ (a7 ++ z ∷ []))))) x p)
    where
      regroup : (a b c : List Lexeme) (o : Lexeme) (r : List Lexeme) → a ++ (b ++ ((c ++ o ∷ []) ++ r)) ≡ (a ++ (b ++ c)) ++ (o ∷ r)
      regroup a b c o r = ap (λ y. a ++ (b ++ y)) (append_assoc c (o ∷ []) r) ∙ ap (λ y. a ++ y) (sym (append_assoc b c (o ∷ r))) ∙ sym (append_assoc a (b ++ c) (o ∷ r))

  -- An item that may stand in a loop.
  pub some-placed : (ts : List Lexeme) (f : FormTwo) → Derives R some_looped ts f → Placed 0 ts f
  some-placed ts f (inl d) = simple (plain_between ref_form join_two) refl refl ts f d (λ m. few-plain m ts f d)
  some-placed ts f (inr (inl d)) = simple (fifo1_between ref_form join_two) refl refl ts f d (λ m. few-one m (λ x. channels.Fifo1 x) (word (codes "fifo1")) ref_form ref_form held_form (word (codes ";")) ts f d)
  some-placed ts f (inr (inr (inl d))) = simple (fifo_between ref_form join_two) refl refl ts f d (λ m. few-sized m (λ n x. channels.Fifo n x) (word (codes "fifo")) (number_form 1 1024) ref_form ref_form held_list (word (codes ";")) ts f d)
  some-placed ts f (inr (inr (inr (inl d)))) = simple (filter_between ref_form join_two) refl refl ts f d (λ m. few-end m (λ x. channels.Filter x) (word (codes "filter")) ref_form ref_form (word (codes "when")) (rule term_rule) (word (codes ";")) ts f d)
  some-placed ts f (inr (inr (inr (inr (inl d))))) = simple (map_between ref_form join_two) refl refl ts f d (λ m. few-end m (λ x. channels.Map x) (word (codes "map")) ref_form ref_form (word (codes "to")) (rule term_rule) (word (codes ";")) ts f d)
  some-placed ts f (inr (inr (inr (inr (inr (inl d)))))) = simple use_two refl refl ts f d (λ m. few-use m ts f d)
  some-placed ts f (inr (inr (inr (inr (inr (inr (inl d))))))) = simple shift_two refl refl ts f d (λ m. few-sized m (λ n x. channels.Shift n x) (named_word (codes "shift")) (number_form 1 1024) ref_form ref_form held_list (word (codes ";")) ts f d)
  some-placed ts f (inr (inr (inr (inr (inr (inr (inr (inl d)))))))) = simple variable_two refl refl ts f d (λ m. few-one m (λ x. channels.Variable x) (named_word (codes "variable")) ref_form ref_form held_form (word (codes ";")) ts f d)
  some-placed ts f (inr (inr (inr (inr (inr (inr (inr (inr (inl d))))))))) = simple quota_two refl refl ts f d (λ m. few-quota m ts f d)
  some-placed ts f (inr (inr (inr (inr (inr (inr (inr (inr (inr d))))))))) = loop-placed ts f d
