-- The tokens of connectors and programs, and their loops.
use Rattle.std.proofs.Common.{◌≡◌, ◌∙◌, ℕ, zero, suc, ◌+◌, ◌≤◌, Bool, true, false, ◌&&◌, List, [], ◌∷◌, ◌++◌, inl, inr, Option, refl, sym, ap, subst, arith, append_assoc, codes}
use Rattle.std.specs.List.{list_all}
use Rattle.std.proofs.lemmas.List.Folds.{list_all-append}
use Rattle.reo_grammar.specs.Tokens.{Lexeme, matches}
use Rattle.reo_grammar.specs.Tokens.Class.{fixed}
use Rattle.reo_grammar.specs.Grammar.{Derives, Links, Within, Says, line_of}
use Rattle.reo_grammar.specs.Grammar.Grammar.{nothing, rule, lined}
use Rattle.reo_grammar.specs.Levels.{Nowhere}
use Rattle.reo_grammar.proofs.Classes.{inside-yes}
use Rattle.reo_trees.specs.declared.items_two.ItemTwo.{ItemTwo}
use Rattle.reo_trees.specs.declared.items_two.FormTwo.{FormTwo}
use Rattle.reo_trees.specs.declared.items_two.FormTwo.TheVariants as forms
use Rattle.reo_trees.specs.declared.programs_two.ConnectorTwo.{ConnectorTwo}
use Rattle.reo_trees.specs.declared.programs_two.DeclarationTwo.{DeclarationTwo}
use Rattle.reo_trees.specs.declared.programs_two.DeclarationTwo.TheVariants as declarations
use Rattle.reo_trees.specs.declared.programs_two.ProgramTwo.{ProgramTwo}
use Rattle.reo_trees.specs.declared.types.Shape.{Shape}
use Rattle.reo_trees.specs.declared.types.Shape.TheVariants as shapes
use Rattle.reo_trees.specs.Forms.{Rule, tree_of, listed, name_form, word, word_as, ◌▸◌, ◌◂◌}
use Rattle.reo_trees.specs.Forms.Rule.{type_rule, literal_rule, term_rule, unary_rule, looped_rule}
use Rattle.reo_trees.specs.Types.{names_form, int_form, text_type_form, pair_form, shape_form, sym_form}
use Rattle.reo_trees.specs.Literals.{literal_form}
use Rattle.reo_trees.specs.Terms.{term_form, unary_form}
use Rattle.reo_trees.specs.Programs.{parameters_form}
use Rattle.reo_trees.specs.ItemsTwo.{node_two, item_two, items_two}
use Rattle.reo_trees.specs.ProgramsTwo.{numbered_form, connector_two, named_two, declaration_two, declarations_two, version_two, program_two}
use Rattle.reo_trees.specs.Rules.{circuit_rules}
use Rattle.reo_trees.specs.SaysTwo.{item_starts, IsLooped}
use Rattle.reo_trees.specs.loops.Few.{few_loops, few_in_items, few_declared, few_in_program}
use Rattle.reo_trees.proofs.loops.Scan.{opening, closing, no_loop, no-append, up, lets, lets-append, low-quiet, Balanced, balanced-none, balanced-two, Shallow, shallow-two, Calm}
use Rattle.reo_trees.proofs.loops.Fronts.{walked-so, walked-only}
use Rattle.reo_trees.proofs.loops.Placed.{Claim, Placed, PlacedItems, calm-up, calm-shallow, placed-none, placed-more, enclosed, enclosed-opens, enclosed-balanced}
use Rattle.reo_trees.proofs.loops.Trees.{calm, shallow, some-placed}

-- Calm tokens between braces.
braced-shallow : (o : Lexeme) (c : List Lexeme) (z : Lexeme) → matches (fixed (codes "{")) o ≡ true → matches (fixed (codes "}")) z ≡ true → Calm c → Shallow (o ∷ (c ++ z ∷ []))
braced-shallow o c z m n h = record { balanced = enclosed-balanced o c z m n (calm-shallow c h).balanced; quiet = quiet }
  where
    same-sum : (a : ℕ) → 1 + a ≡ 0 + (1 + a)
    same-sum a = omega arith

    quiet : (k a b : ℕ) (s : Bool) → suc a ≤ k + b → no_loop k a b s (o ∷ (c ++ z ∷ [])) ≡ true
    quiet k a b s i =
        let e : up opening a (o ∷ (c ++ z ∷ [])) ≡ (1 + 0) + a = enclosed-opens o c z m n 0 a (calm-up (codes "{") c (1 + a) refl h ∙ same-sum a) in
        low-quiet k (o ∷ (c ++ z ∷ [])) a b s (rw e (omega arith))

-- What the tokens of a declaration are.
record Declared (ts : List Lexeme) (d : DeclarationTwo) : Type 0 where
  pub balanced : Balanced ts
  pub same : (n a : ℕ) (s : Bool) → 2 ≤ n → no_loop n a a s ts ≡ few_declared n d

record DeclaredAll (ts : List Lexeme) (ds : List DeclarationTwo) : Type 0 where
  pub balanced : Balanced ts
  pub same : (n a : ℕ) (s : Bool) → 2 ≤ n → no_loop n a a s ts ≡ list_all (few_declared n) ds

module _ (k : ℕ) (claims : (r : Rule) (ts : List Lexeme) (x : tree_of r) → Within circuit_rules k r ts x → Claim r ts x) where
  abbrev R : (r : Rule) → List Lexeme → tree_of r → Type 0
  R = Within circuit_rules k

  sym-shallow : (ts : List Lexeme) (x : Shape) → Derives R sym_form ts x → Shallow ts
  sym-shallow ts x (a, b, u, s, w, d, (a2, b2, u2, s2, w2, (o, (e, m), r), (a3, b3, s3, u3, w3, d3, (z, (e4, m4), r4), v3), v2), v) =
      let h : Calm a3 = calm k claims (Rattle.reo_grammar.specs.Grammar.Grammar.made (λ names. shapes.Sym names) names_form) refl a3 s3 d3 in
      let i : ts ≡ a ++ (o ∷ (a3 ++ z ∷ [])) = w ∙ ap (λ y. a ++ y) (w2 ∙ ap (λ y. y ++ b2) e ∙ ap (λ y. o ∷ y) (w3 ∙ ap (λ y. a3 ++ y) e4)) in
      subst Shallow (sym i) (shallow-two a (o ∷ (a3 ++ z ∷ [])) (shallow k claims (word (codes "sym")) refl a u d) (braced-shallow o a3 z m m4 h))

  shape-shallow : (ts : List Lexeme) (x : Shape) → Derives R shape_form ts x → Shallow ts
  shape-shallow ts x (inl d) = shallow k claims (word_as shapes.Unit (codes "unit")) refl ts x d
  shape-shallow ts x (inr (inl d)) = shallow k claims (word_as shapes.Bool (codes "bool")) refl ts x d
  shape-shallow ts x (inr (inr (inl d))) = shallow k claims int_form refl ts x d
  shape-shallow ts x (inr (inr (inr (inl d)))) = sym-shallow ts x d
  shape-shallow ts x (inr (inr (inr (inr (inl d))))) = shallow k claims text_type_form refl ts x d
  shape-shallow ts x (inr (inr (inr (inr (inr (inl d)))))) = shallow k claims pair_form refl ts x d
  shape-shallow ts x (inr (inr (inr (inr (inr (inr d)))))) = shallow k claims (Rattle.reo_grammar.specs.Grammar.Grammar.made (λ n. shapes.Named n) name_form) refl ts x d

  -- What is claimed of each rule holds, by how deep the rules are nested.
  pub rule-claimed : (r : Rule) (ts : List Lexeme) (x : tree_of r) → Derives R (circuit_rules r) ts x → Claim r ts x
  rule-claimed type_rule ts x (s, d, v) = shape-shallow ts s d
  rule-claimed literal_rule ts x d = calm k claims literal_form refl ts x d
  rule-claimed term_rule ts x d = calm k claims term_form refl ts x d
  rule-claimed unary_rule ts x d = calm k claims unary_form refl ts x d
  rule-claimed looped_rule ts x (f, d, v) = subst (λ (i : ItemTwo). Placed 0 ts i.form) v (some-placed k claims ts f d)

  few-node : (m : ℕ) (ts : List Lexeme) (f : FormTwo) → Derives R node_two ts f → few_loops m f ≡ true
  few-node m ts f (a, b, u, g, w, d, (p, q, n, h, w2, d2, (r, s, y, z, w3, d3, d4, v3), v2), v) =
      ap (few_loops m) (sym v) ∙ ap (few_loops m) (sym v2) ∙ ap (λ (l : List ℕ → FormTwo). few_loops m (l n)) (sym v3) ∙ by m
    where
      by : (m : ℕ) → few_loops m (forms.Node n y z) ≡ true
      by zero = refl
      by (suc m) = refl

  node-ends : (s : Bool) (ts : List Lexeme) (f : FormTwo) → Derives R node_two ts f → lets s ts ≡ true
  node-ends s ts f (a, b, u, g, w, d, (p, q, n, h, w2, d2, (r, c, y, z, w3, d3, (e, j, x, u4, w4, d4, (t, (e5, m5), r5), v4), v3), v2), v) =
      ap (lets s) w ∙ lets-append s a b ∙ ap (lets (lets s a)) w2 ∙ lets-append (lets s a) p q ∙ ap (lets (lets (lets s a) p)) w3 ∙ lets-append (lets (lets s a) p) r c
      ∙ ap (lets (lets (lets (lets s a) p) r)) w4 ∙ lets-append (lets (lets (lets s a) p) r) e j ∙ ap (lets (lets (lets (lets (lets s a) p) r) e)) e5
      ∙ inside-yes (fixed (codes ";")) item_starts t refl m5

  node-placed : (ts : List Lexeme) (f : FormTwo) → Derives R node_two ts f → Placed 2 ts f
  node-placed ts f d =
      let h = shallow k claims node_two refl ts f d in
      record { balanced = h.balanced; ends = λ s. node-ends s ts f d; same = λ n a b m e l. h.quiet n a b true (within n a b m e l) ∙ sym (few-node m ts f d) }
    where
      within : (n a b m : ℕ) → m + a ≡ suc (n + b) → 2 ≤ m → suc a ≤ n + b
      within n a b m e l = omega arith

  wider : (ts : List Lexeme) (f : FormTwo) → Placed 0 ts f → Placed 2 ts f
  wider ts f p = record { balanced = p.balanced; ends = p.ends; same = λ n a b m e l. p.same n a b m e (omega arith) }

  item-placed : (ts : List Lexeme) (i : ItemTwo) → Derives R item_two ts i → Placed 2 ts i.form
  item-placed ts i (f, inl d, v) = subst (λ (j : ItemTwo). Placed 2 ts j.form) v (node-placed ts f d)
  item-placed ts i (f, inr d, v) = subst (λ (j : ItemTwo). Placed 2 ts j.form) v (wider ts f (some-placed k claims ts f d))

  items-placed : (ts : List Lexeme) (is : List ItemTwo) → Derives R items_two ts is → PlacedItems 2 ts is
  items-placed ts is (n, l) = links n ts is l
    where
      links : (n : ℕ) (ts : List Lexeme) (is : List ItemTwo) → Links listed (Derives R (nothing [])) (Derives R item_two) n ts is → PlacedItems 2 ts is
      links zero ts is (e, v) = subst (λ x. PlacedItems 2 x is) (sym e) (subst (PlacedItems 2 []) v (placed-none 2))
      links (suc n) ts is (a, b, y, z, w, l, d, v) =
          subst (λ x. PlacedItems 2 x is) (sym w) (subst (PlacedItems 2 (a ++ b)) v (placed-more 2 a b y z (links n a y l) (item-placed b z d)))

  named-declared : (ts : List Lexeme) (d : DeclarationTwo) → Derives R named_two ts d → Declared ts d
  named-declared ts d (f, e, v) =
      let h = shallow k claims named_two refl ts d (f, e, v) in
      record { balanced = h.balanced; same = λ n a s l. h.quiet n a a s (omega arith) ∙ sym (few n e) }
    where
      few : (n : ℕ) → Derives R (word (codes "type") ▸ Rattle.reo_grammar.specs.Grammar.Grammar.both (λ n t (l : ℕ). declarations.Named l n t) (name_form ◂ word (codes "=")) (rule type_rule ◂ word (codes ";"))) ts f → few_declared n d ≡ true
      few n (a, b, u, g, w, d1, (p, q, x, y, w2, d2, d3, v2), v1) = ap (few_declared n) (sym v) ∙ ap (λ (z : ℕ → DeclarationTwo). few_declared n (z (line_of ts))) (sym v1) ∙ ap (λ (z : ℕ → DeclarationTwo). few_declared n (z (line_of ts))) (sym v2)

  -- A head with few braces, and items between braces.
  bodied : (head : List Lexeme) (o : Lexeme) (items : List Lexeme) (z : Lexeme) (is : List ItemTwo) → Shallow head → matches (fixed (codes "{")) o ≡ true → matches (fixed (codes "}")) z ≡ true
      → PlacedItems 2 items is → (n a : ℕ) (s : Bool) → 2 ≤ n → no_loop n a a s (head ++ (o ∷ (items ++ z ∷ []))) ≡ few_in_items n is
  bodied head o items z is h m c p n a s l =
      let x = h.balanced.braces + a in
      no-append n a a s head (o ∷ (items ++ z ∷ []))
      ∙ ap (λ y. y && no_loop n (up opening a head) (up closing a head) (lets s head) (o ∷ (items ++ z ∷ []))) (h.quiet n a a s (omega arith))
      ∙ ap (λ y. no_loop n y (up closing a head) (lets s head) (o ∷ (items ++ z ∷ []))) (h.balanced.opens a)
      ∙ ap (λ y. no_loop n x y (lets s head) (o ∷ (items ++ z ∷ []))) (h.balanced.closes a)
      ∙ enclosed o items z m c n x x (lets s head) ∙ p.same n (1 + x) x n (omega arith) l

  connector-declared : (ts : List Lexeme) (c : ConnectorTwo) → Derives R connector_two ts c → Declared ts (declarations.Made c)
  connector-declared ts c (f, (a, b, u, g, w, d, (p, q, n, h, w2, d2, (r, s, t, j, w3, d3, (x, y, ps, is, w4, d4, (o1, o2, u5, is2, w5, (o, (e5, m5), r5), (i1, i2, is3, u6, w6, d6, (z, (e7, m7), r7), v6), v5), v4), v3), v2), v1), v) =
      let head = a ++ (p ++ (r ++ x)) in
      let hs : Shallow head = shallow-two a (p ++ (r ++ x)) (shallow k claims (word (codes "connector")) refl a u d)
      (shallow-two p (r ++ x) (shallow k claims name_form refl p n d2) (shallow-two r x (shallow k claims (numbered_form ◂ word (codes "(")) refl r t d3) (shallow k claims (parameters_form ◂ word (codes ")")) refl x ps d4))) in
      let pi = items-placed i1 is3 d6 in
      let i : ts ≡ head ++ (o ∷ (i1 ++ z ∷ []))
      = w ∙ ap (λ l. a ++ l) (w2 ∙ ap (λ l. p ++ l) (w3 ∙ ap (λ l. r ++ l) (w4 ∙ ap (λ l. x ++ l) (w5 ∙ ap (λ l. l ++ o2) e5 ∙ ap (λ l. o ∷ l) (w6 ∙ ap (λ l. i1 ++ l) e7))))) ∙ regroup a p r x (o ∷ (i1 ++ z ∷ [])) in
      let same_items : is3 ≡ c.items
      = v6 ∙ v5 ∙ ap (λ (l : Option (List ℕ) → List ℕ → ℕ → ConnectorTwo). (l t n (line_of ts)).items) v4 ∙ ap (λ (l : List ℕ → ℕ → ConnectorTwo). (l n (line_of ts)).items) v3 ∙ ap (λ (l : ℕ → ConnectorTwo). (l (line_of ts)).items) v2 ∙ ap (λ (l : ℕ → ConnectorTwo). (l (line_of ts)).items) v1 ∙ ap (λ (l : ConnectorTwo). l.items) v in
      let bal : Balanced (head ++ (o ∷ (i1 ++ z ∷ []))) = balanced-two head (o ∷ (i1 ++ z ∷ [])) hs.balanced (enclosed-balanced o i1 z m5 m7 pi.balanced) in
      record {
        balanced = subst Balanced (sym i) bal;
        same = λ m b s l. ap (no_loop m b b s) i ∙ bodied head o i1 z is3 hs m5 m7 pi m b s l ∙ ap (few_in_items m) same_items;
      }
    where
      regroup : (a b c d e : List Lexeme) → a ++ (b ++ (c ++ (d ++ e))) ≡ (a ++ (b ++ (c ++ d))) ++ e
      regroup a b c d e = ap (λ l. a ++ (b ++ l)) (sym (append_assoc c d e)) ∙ ap (λ l. a ++ l) (sym (append_assoc b (c ++ d) e)) ∙ sym (append_assoc a (b ++ (c ++ d)) e)

  declaration-declared : (ts : List Lexeme) (x : DeclarationTwo) → Derives R declaration_two ts x → Declared ts x
  declaration-declared ts x (inl d) = named-declared ts x d
  declaration-declared ts x (inr (c, d, v)) = subst (Declared ts) v (connector-declared ts c d)

  declared-none : DeclaredAll [] []
  declared-none = record { balanced = balanced-none; same = λ n a s l. refl }

  declared-more : (x y : List Lexeme) (ds : List DeclarationTwo) (d : DeclarationTwo) → DeclaredAll x ds → Declared y d → DeclaredAll (x ++ y) (listed ds d)
  declared-more x y ds d p q = record { balanced = balanced-two x y p.balanced q.balanced; same = same }
    where
      last : (z : Bool) → (z && true) ≡ z
      last true = refl
      last false = refl

      same : (n a : ℕ) (s : Bool) → 2 ≤ n → no_loop n a a s (x ++ y) ≡ list_all (few_declared n) (listed ds d)
      same n a s l =
          no-append n a a s x y ∙ ap (λ z. z && no_loop n (up opening a x) (up closing a x) (lets s x) y) (p.same n a s l)
          ∙ ap (λ z. list_all (few_declared n) ds && no_loop n z (up closing a x) (lets s x) y) (p.balanced.opens a)
          ∙ ap (λ z. list_all (few_declared n) ds && no_loop n (p.balanced.braces + a) z (lets s x) y) (p.balanced.closes a)
          ∙ ap (λ z. list_all (few_declared n) ds && z) (q.same n (p.balanced.braces + a) (lets s x) l ∙ sym (last (few_declared n d)))
          ∙ sym (list_all-append (few_declared n) ds (d ∷ []))

  declarations-declared : (ts : List Lexeme) (ds : List DeclarationTwo) → Derives R declarations_two ts ds → DeclaredAll ts ds
  declarations-declared ts ds (n, l) = links n ts ds l
    where
      links : (n : ℕ) (ts : List Lexeme) (ds : List DeclarationTwo) → Links listed (Derives R (nothing [])) (Derives R declaration_two) n ts ds → DeclaredAll ts ds
      links zero ts ds (e, v) = subst (λ x. DeclaredAll x ds) (sym e) (subst (DeclaredAll []) v declared-none)
      links (suc n) ts ds (a, b, y, z, w, l, d, v) =
          subst (λ x. DeclaredAll x ds) (sym w) (subst (DeclaredAll (a ++ b)) v (declared-more a b y z (links n a y l) (declaration-declared b z d)))

  pub program-walked : (n : ℕ) (ts : List Lexeme) (p : ProgramTwo) → 2 ≤ n → Derives R program_two ts p → no_loop n 0 0 false ts ≡ few_in_program n p
  program-walked n ts p l (a, b, u, q, w, d, (ds, e, v), v2) =
      let h = shallow k claims version_two refl a u d in
      let c = declarations-declared b ds e in
      let same_list : ds ≡ p.declarations = ap (λ (x : ProgramTwo). x.declarations) (v ∙ v2) in
      ap (no_loop n 0 0 false) w ∙ no-append n 0 0 false a b
      ∙ ap (λ z. z && no_loop n (up opening 0 a) (up closing 0 a) (lets false a) b) (h.quiet n 0 0 false (omega arith))
      ∙ ap (λ z. no_loop n z (up closing 0 a) (lets false a) b) (h.balanced.opens 0)
      ∙ ap (λ z. no_loop n (h.balanced.braces + 0) z (lets false a) b) (h.balanced.closes 0)
      ∙ c.same n (h.balanced.braces + 0) (lets false a) l ∙ ap (list_all (few_declared n)) same_list

claims : (k : ℕ) (r : Rule) (ts : List Lexeme) (x : tree_of r) → Within circuit_rules k r ts x → Claim r ts x
claims zero r ts x d = absurd d
claims (suc k) r ts x d = rule-claimed k (claims k) r ts x d

walked : (n : ℕ) (ts : List Lexeme) (p : ProgramTwo) → 2 ≤ n → Says circuit_rules program_two ts p → no_loop n 0 0 false ts ≡ few_in_program n p
walked n ts p l (k, d) = program-walked k (claims k) n ts p l d

pub few-so : (n : ℕ) (ts : List Lexeme) (p : ProgramTwo) → 2 ≤ n → Says circuit_rules program_two ts p → Nowhere (IsLooped n) ts → few_in_program n p ≡ true
few-so n ts p l s none = sym (walked n ts p l s) ∙ walked-only n [] ts none

pub nowhere-so : (n : ℕ) (ts : List Lexeme) (p : ProgramTwo) → 2 ≤ n → Says circuit_rules program_two ts p → few_in_program n p ≡ true → Nowhere (IsLooped n) ts
nowhere-so n ts p l s few = walked-so n [] ts (walked n ts p l s ∙ few)
