-- The tokens of items of loops, and the loops of these items.
use Rattle.std.proofs.Common.{◌≡◌, ◌∙◌, ℕ, zero, suc, ◌+◌, ◌≤◌, Bool, true, false, not, ◌&&◌, List, [], ◌∷◌, ◌++◌, refl, sym, ap, arith, codes}
use Rattle.std.proofs.lemmas.List.Folds.{list_all-append}
use Rattle.std.specs.Str.{bytes_eq}
use Rattle.std.proofs.Math.Dec.{ltb}
use Rattle.std.proofs.lemmas.Bool.{le-ltb, lt-ltb, both_ways}
use Rattle.reo_grammar.specs.Tokens.{Lexeme, Class, matches}
use Rattle.reo_grammar.specs.Tokens.Class.{fixed, among, named}
use Rattle.reo_grammar.specs.Sight.{inside}
use Rattle.reo_grammar.proofs.Classes.{inside-yes, apart-no, false-not}
use Rattle.reo_trees.specs.declared.indexes.Index.{Index}
use Rattle.reo_trees.specs.declared.items_two.ItemTwo.{ItemTwo}
use Rattle.reo_trees.specs.declared.items_two.FormTwo.{FormTwo}
use Rattle.reo_trees.specs.declared.items_two.FormTwo.TheVariants as forms
use Rattle.reo_trees.specs.Forms.{Rule, tree_of, listed}
use Rattle.reo_trees.specs.Forms.Rule.{type_rule, literal_rule, term_rule, unary_rule, looped_rule}
use Rattle.reo_trees.specs.SaysTwo.{item_starts}
use Rattle.reo_trees.specs.loops.Places.{is_for}
use Rattle.reo_trees.specs.loops.Few.{few_loops, few_in_items}
use Rattle.reo_trees.proofs.loops.Scan.{opening, closing, add, add-none, add-one, no_loop, no-append, up, up-append, lets, lets-append, Balanced, balanced-none, balanced-two, Shallow, shallow-none, shallow-two, shallow-token, Calm, calm-quiet}
use Rattle.reo_trees.proofs.loops.Unfold.{few-loop}

-- The rules whose tokens let no item begin, and those whose braces are those of types.
abbrev pub calm_rule : Rule → Bool
calm_rule type_rule = false
calm_rule literal_rule = true
calm_rule term_rule = true
calm_rule unary_rule = true
calm_rule looped_rule = false

abbrev pub shallow_rule : Rule → Bool
shallow_rule type_rule = true
shallow_rule literal_rule = true
shallow_rule term_rule = true
shallow_rule unary_rule = true
shallow_rule looped_rule = false

abbrev pub braces : Class
braces = among (codes "{" ∷ codes "}" ∷ [])

-- A token that lets no item begin is no brace.
no-brace : (b : List ℕ) (t : Lexeme) → inside (fixed b) item_starts ≡ true → matches item_starts t ≡ false → matches (fixed b) t ≡ false
no-brace b t i h = false-not (matches (fixed b) t) (λ e. both_ways (matches item_starts t) h (inside-yes (fixed b) item_starts t i e))

pub calm-up : (b : List ℕ) (ts : List Lexeme) (a : ℕ) → inside (fixed b) item_starts ≡ true → Calm ts → up (fixed b) a ts ≡ a
calm-up b [] a i h = refl
calm-up b (t ∷ ts) a i (e, h) = ap (λ z. up (fixed b) z ts) (add-none (fixed b) t a (no-brace b t i e)) ∙ calm-up b ts a i h

pub calm-shallow : (ts : List Lexeme) → Calm ts → Shallow ts
calm-shallow [] h = shallow-none
calm-shallow (t ∷ ts) (e, h) = shallow-two (t ∷ []) ts (shallow-token t (no-brace (codes "{") t refl e) (no-brace (codes "}") t refl e)) (calm-shallow ts h)

-- Words and signs are no names.
fixed-no-for : (b : List ℕ) (t : Lexeme) → matches (fixed b) t ≡ true → is_for t ≡ false
fixed-no-for b t h = false-not (is_for t) (λ e. apart-no (fixed b) (named (codes "for")) t refl h e)

one-no-other : (b c : List ℕ) (t : Lexeme) → not (bytes_eq b c) ≡ true → Rattle.reo_grammar.specs.Sight.apart (fixed b) (fixed c) ≡ true → matches (fixed b) t ≡ true → matches (fixed c) t ≡ false
one-no-other b c t n p h = false-not (matches (fixed c) t) (λ e. apart-no (fixed b) (fixed c) t p h e)

-- What the tokens of an item are, where at least so many loops may still stand in one another.
pub record Placed (least : ℕ) (ts : List Lexeme) (f : FormTwo) : Type 0 where
  pub balanced : Balanced ts
  pub ends : (s : Bool) → lets s ts ≡ true
  pub same : (n a b m : ℕ) → m + a ≡ suc (n + b) → least ≤ m → no_loop n a b true ts ≡ few_loops m f

-- What those of several are.
pub record PlacedItems (least : ℕ) (ts : List Lexeme) (is : List ItemTwo) : Type 0 where
  pub balanced : Balanced ts
  pub ends : lets true ts ≡ true
  pub same : (n a b m : ℕ) → m + a ≡ suc (n + b) → least ≤ m → no_loop n a b true ts ≡ few_in_items m is

abbrev pub Claim : (r : Rule) → List Lexeme → tree_of r → Type 0
Claim type_rule ts x = Shallow ts
Claim literal_rule ts x = Calm ts
Claim term_rule ts x = Calm ts
Claim unary_rule ts x = Calm ts
Claim looped_rule ts i = Placed 0 ts i.form

-- Calm tokens and a `;`, of which the first is no `for`.
abbrev FirstOther : List Lexeme → Type 0
FirstOther ts = (s : Lexeme) (u : List Lexeme) → s ∷ u ≡ ts → is_for s ≡ false

no-test : (x y z : Bool) → y ≡ false → not (x && (y && z)) ≡ true
no-test true y z h = rw h refl
no-test false y z h = refl

calm-end : (n a b : ℕ) (c : List Lexeme) (t : Lexeme) → Calm c → no_loop n a b false (c ++ t ∷ []) ≡ true
calm-end n a b [] t h = refl
calm-end n a b (s ∷ c) t (e, h) = ap (λ z. no_loop n (add opening s a) (add closing s b) z (c ++ t ∷ [])) e ∙ calm-end n (add opening s a) (add closing s b) c t h

other-first : (n a b : ℕ) (s : Lexeme) (u : List Lexeme) → is_for s ≡ false → no_loop n a b true (s ∷ u) ≡ no_loop n (add opening s a) (add closing s b) (matches item_starts s) u
other-first n a b s u h = ap (λ z. z && no_loop n (add opening s a) (add closing s b) (matches item_starts s) u) (no-test true (is_for s) _ h)

quiet-item : (n a b : ℕ) (c : List Lexeme) (t : Lexeme) → Calm c → FirstOther (c ++ t ∷ []) → no_loop n a b true (c ++ t ∷ []) ≡ true
quiet-item n a b [] t h f = other-first n a b t [] (f t [] refl)
quiet-item n a b (s ∷ c) t (e, h) f =
    other-first n a b s (c ++ t ∷ []) (f s (c ++ t ∷ []) refl)
    ∙ ap (λ z. no_loop n (add opening s a) (add closing s b) z (c ++ t ∷ [])) e ∙ calm-end n (add opening s a) (add closing s b) c t h

pub end-shallow : (t : Lexeme) → matches (fixed (codes ";")) t ≡ true → Shallow (t ∷ [])
end-shallow t m = shallow-token t (one-no-other (codes ";") (codes "{") t refl refl m) (one-no-other (codes ";") (codes "}") t refl refl m)

end-lets : (s : Bool) (c : List Lexeme) (t : Lexeme) → matches (fixed (codes ";")) t ≡ true → lets s (c ++ t ∷ []) ≡ true
end-lets s c t m = lets-append s c (t ∷ []) ∙ inside-yes (fixed (codes ";")) item_starts t refl m

pub placed-simple : (c : List Lexeme) (t : Lexeme) (f : FormTwo) → Calm c → matches (fixed (codes ";")) t ≡ true → FirstOther (c ++ t ∷ []) → ((m : ℕ) → few_loops m f ≡ true) → Placed 0 (c ++ t ∷ []) f
placed-simple c t f h m o few = record {
  balanced = balanced-two c (t ∷ []) (calm-shallow c h).balanced (end-shallow t m).balanced;
  ends = λ s. end-lets s c t m;
  same = λ n a b k e l. quiet-item n a b c t h o ∙ sym (few k);
}

-- A `{`, the tokens of items and a `}`.
module _ (o : Lexeme) (items : List Lexeme) (z : Lexeme) (begin_it : matches (fixed (codes "{")) o ≡ true) (close : matches (fixed (codes "}")) z ≡ true) where
  open-none : matches closing o ≡ false
  open-none = one-no-other (codes "{") (codes "}") o refl refl begin_it

  close-none : matches opening z ≡ false
  close-none = one-no-other (codes "}") (codes "{") z refl refl close

  pub enclosed-opens : (k a : ℕ) → up opening (1 + a) items ≡ k + (1 + a) → up opening a (o ∷ (items ++ z ∷ [])) ≡ (1 + k) + a
  enclosed-opens k a e =
      ap (λ x. up opening x (items ++ z ∷ [])) (add-one opening o a begin_it) ∙ up-append opening (1 + a) items (z ∷ [])
      ∙ ap (λ x. add opening z x) e ∙ add-none opening z (k + (1 + a)) close-none ∙ sum
    where
      sum : k + (1 + a) ≡ (1 + k) + a
      sum = omega arith

  pub enclosed-closes : (k a : ℕ) → up closing a items ≡ k + a → up closing a (o ∷ (items ++ z ∷ [])) ≡ (1 + k) + a
  enclosed-closes k a e =
      ap (λ x. up closing x (items ++ z ∷ [])) (add-none closing o a open-none) ∙ up-append closing a items (z ∷ [])
      ∙ ap (λ x. add closing z x) e ∙ add-one closing z (k + a) close ∙ sum
    where
      sum : 1 + (k + a) ≡ (1 + k) + a
      sum = omega arith

  pub enclosed-balanced : Balanced items → Balanced (o ∷ (items ++ z ∷ []))
  enclosed-balanced p = record { braces = 1 + p.braces; opens = λ a. enclosed-opens p.braces a (p.opens (1 + a)); closes = λ a. enclosed-closes p.braces a (p.closes a) }

  pub enclosed-ends : (s : Bool) → lets s (o ∷ (items ++ z ∷ [])) ≡ true
  enclosed-ends s = lets-append (matches item_starts o) items (z ∷ []) ∙ inside-yes (fixed (codes "}")) item_starts z refl close

  inner : (n a b : ℕ) → no_loop n a b true (items ++ z ∷ []) ≡ no_loop n a b true items
  inner n a b =
      no-append n a b true items (z ∷ [])
      ∙ ap (λ x. no_loop n a b true items && (x && true)) (no-test (lets true items) (is_for z) _ (fixed-no-for (codes "}") z close))
      ∙ last (no_loop n a b true items)
    where
      last : (x : Bool) → (x && true) ≡ x
      last true = refl
      last false = refl

  pub enclosed : (n a b : ℕ) (s : Bool) → no_loop n a b s (o ∷ (items ++ z ∷ [])) ≡ no_loop n (1 + a) b true items
  enclosed n a b s =
      ap (λ x. x && no_loop n (add opening o a) (add closing o b) (matches item_starts o) (items ++ z ∷ [])) (no-test s (is_for o) _ (fixed-no-for (codes "{") o begin_it))
      ∙ ap (λ x. no_loop n x (add closing o b) (matches item_starts o) (items ++ z ∷ [])) (add-one opening o a begin_it)
      ∙ ap (λ x. no_loop n (1 + a) x (matches item_starts o) (items ++ z ∷ [])) (add-none closing o b open-none)
      ∙ ap (λ x. no_loop n (1 + a) b x (items ++ z ∷ [])) (inside-yes (fixed (codes "{")) item_starts o refl begin_it)
      ∙ inner n (1 + a) b

-- A loop: the name, calm tokens, a `{`, the items and a `}`.
module _ (t : Lexeme) (c : List Lexeme) (o : Lexeme) (items : List Lexeme) (z : Lexeme) (name : is_for t ≡ true) (calm : Calm c)
    (begin_it : matches (fixed (codes "{")) o ≡ true) (close : matches (fixed (codes "}")) z ≡ true) where
  name-none : (b : List ℕ) → matches (fixed b) t ≡ false
  name-none b = false-not (matches (fixed b) t) (λ e. apart-no (fixed b) (named (codes "for")) t refl e name)

  name-starts : matches item_starts t ≡ false
  name-starts = false-not (matches item_starts t) (λ e. apart-no item_starts (named (codes "for")) t refl e name)

  abbrev body : List Lexeme
  body = o ∷ (items ++ z ∷ [])

  counted : (b : List ℕ) (a : ℕ) → inside (fixed b) item_starts ≡ true → up (fixed b) a (t ∷ (c ++ body)) ≡ up (fixed b) a body
  counted b a i =
      ap (λ x. up (fixed b) x (c ++ body)) (add-none (fixed b) t a (name-none b)) ∙ up-append (fixed b) a c body ∙ ap (λ x. up (fixed b) x body) (calm-up b c a i calm)

  behind : (n a b : ℕ) → no_loop n a b false (c ++ body) ≡ no_loop n (1 + a) b true items
  behind n a b =
      no-append n a b false c body
      ∙ ap (λ x. x && no_loop n (up opening a c) (up closing b c) (lets false c) body) (calm-quiet n a b c calm)
      ∙ enclosed o items z begin_it close n (up opening a c) (up closing b c) (lets false c)
      ∙ ap (λ x. no_loop n (1 + x) (up closing b c) true items) (calm-up (codes "{") c a refl calm)
      ∙ ap (λ x. no_loop n (1 + a) x true items) (calm-up (codes "}") c b refl calm)

  whole : (n a b : ℕ) → no_loop n a b true (t ∷ (c ++ body)) ≡ (not (ltb (n + b) a) && no_loop n (1 + a) b true items)
  whole n a b =
      ap (λ x. not (x && ltb (n + add closing t b) (add opening t a)) && no_loop n (add opening t a) (add closing t b) (matches item_starts t) (c ++ body)) name
      ∙ ap (λ x. not (ltb (n + add closing t b) x) && no_loop n x (add closing t b) (matches item_starts t) (c ++ body)) (add-none opening t a (name-none (codes "{")))
      ∙ ap (λ x. not (ltb (n + x) a) && no_loop n a x (matches item_starts t) (c ++ body)) (add-none closing t b (name-none (codes "}")))
      ∙ ap (λ x. not (ltb (n + b) a) && no_loop n a b x (c ++ body)) name-starts
      ∙ ap (λ x. not (ltb (n + b) a) && x) (behind n a b)

  pub placed-loop : (v : List ℕ) (l h : Index) (is : List ItemTwo) → PlacedItems 0 items is → Placed 0 (t ∷ (c ++ (o ∷ (items ++ z ∷ [])))) (forms.Loop v l h is)
  placed-loop v l h is p =
      let e = enclosed-balanced o items z begin_it close p.balanced in
      record {
        balanced = record { braces = e.braces; opens = λ a. counted (codes "{") a refl ∙ e.opens a; closes = λ a. counted (codes "}") a refl ∙ e.closes a };
        ends = λ s. lets-append (matches item_starts t) c body ∙ enclosed-ends o items z begin_it close (lets (matches item_starts t) c);
        same = same;
      }
    where
      same : (n a b m : ℕ) → m + a ≡ suc (n + b) → 0 ≤ m → no_loop n a b true (t ∷ (c ++ body)) ≡ few_loops m (forms.Loop v l h is)
      same n a b zero e j = whole n a b ∙ ap (λ x. not x && no_loop n (1 + a) b true items) (lt-ltb (n + b) a (omega arith))
      same n a b (suc m) e j =
          let i : m + (1 + a) ≡ suc (n + b) = omega arith in
          whole n a b ∙ ap (λ x. not x && no_loop n (1 + a) b true items) (le-ltb (n + b) a (omega arith)) ∙ p.same n (1 + a) b m i (omega arith) ∙ sym (few-loop m v l h is)

-- No item, and one more.
pub placed-none : (least : ℕ) → PlacedItems least [] []
placed-none least = record { balanced = balanced-none; ends = refl; same = λ n a b m e l. refl }

pub placed-more : (least : ℕ) (x y : List Lexeme) (is : List ItemTwo) (i : ItemTwo) → PlacedItems least x is → Placed least y i.form → PlacedItems least (x ++ y) (listed is i)
placed-more least x y is i p q = record {
  balanced = balanced-two x y p.balanced q.balanced;
  ends = lets-append true x y ∙ q.ends (lets true x);
  same = same;
}
  where
    last : (z : Bool) → (z && true) ≡ z
    last true = refl
    last false = refl

    same : (n a b m : ℕ) → m + a ≡ suc (n + b) → least ≤ m → no_loop n a b true (x ++ y) ≡ few_in_items m (listed is i)
    same n a b m e l =
        let k = p.balanced.braces in
        let j : m + (k + a) ≡ suc (n + (k + b)) = omega arith in
        no-append n a b true x y ∙ ap (λ z. z && no_loop n (up opening a x) (up closing b x) (lets true x) y) (p.same n a b m e l)
        ∙ ap (λ z. few_in_items m is && no_loop n z (up closing b x) (lets true x) y) (p.balanced.opens a)
        ∙ ap (λ z. few_in_items m is && no_loop n (k + a) z (lets true x) y) (p.balanced.closes b)
        ∙ ap (λ z. few_in_items m is && no_loop n (k + a) (k + b) z y) p.ends
        ∙ ap (λ z. few_in_items m is && z) (q.same n (k + a) (k + b) m j l ∙ sym (last (few_loops m i.form)))
        ∙ sym (list_all-append (λ (j : ItemTwo). few_loops m j.form) is (i ∷ []))
