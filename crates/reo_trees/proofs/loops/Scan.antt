-- Tokens walked over, from some count of braces on.
use Rattle.std.proofs.Common.{◌≡◌, ◌∙◌, ℕ, suc, ◌+◌, ◌≤◌, Bool, true, false, not, cond, ◌&&◌, List, [], ◌∷◌, ◌++◌, refl, ap, arith, codes}
use Rattle.std.proofs.Math.Dec.{ltb}
use Rattle.std.proofs.lemmas.Bool.{le-ltb, and_from}
use Rattle.reo_grammar.specs.Tokens.{Lexeme, Class, matches}
use Rattle.reo_grammar.specs.Tokens.Class.{fixed}
use Rattle.reo_trees.specs.SaysTwo.{item_starts}
use Rattle.reo_trees.specs.loops.Places.{is_for}

abbrev pub opening : Class
opening = fixed (codes "{")

abbrev pub closing : Class
closing = fixed (codes "}")

abbrev pub add : Class → Lexeme → ℕ → ℕ
add c t a = cond (matches c t) 1 0 + a

-- The token begins a loop in more than so many others, behind so many `{` and `}`.
abbrev pub too_deep : ℕ → ℕ → ℕ → Bool → Lexeme → Bool
too_deep n a b starting t = starting && (is_for t && ltb (n + add closing t b) (add opening t a))

-- None of the tokens does.
abbrev pub no_loop : ℕ → ℕ → ℕ → Bool → List Lexeme → Bool
no_loop n a b starting [] = true
no_loop n a b starting (t ∷ ts) = not (too_deep n a b starting t) && no_loop n (add opening t a) (add closing t b) (matches item_starts t) ts

-- What is counted behind them.
abbrev pub up : Class → ℕ → List Lexeme → ℕ
up c a [] = a
up c a (t ∷ ts) = up c (add c t a) ts

abbrev pub lets : Bool → List Lexeme → Bool
lets starting [] = starting
lets starting (t ∷ ts) = lets (matches item_starts t) ts

and-more : (x y z w : Bool) → y ≡ (z && w) → (x && y) ≡ ((x && z) && w)
and-more true y z w h = h
and-more false y z w h = refl

pub no-append : (n a b : ℕ) (s : Bool) (x y : List Lexeme) → no_loop n a b s (x ++ y) ≡ (no_loop n a b s x && no_loop n (up opening a x) (up closing b x) (lets s x) y)
no-append n a b s [] y = refl
no-append n a b s (t ∷ x) y = and-more (not (too_deep n a b s t)) _ _ _ (no-append n (add opening t a) (add closing t b) (matches item_starts t) x y)

pub up-append : (c : Class) (a : ℕ) (x y : List Lexeme) → up c a (x ++ y) ≡ up c (up c a x) y
up-append c a [] y = refl
up-append c a (t ∷ x) y = up-append c (add c t a) x y

pub lets-append : (s : Bool) (x y : List Lexeme) → lets s (x ++ y) ≡ lets (lets s x) y
lets-append s [] y = refl
lets-append s (t ∷ x) y = lets-append (matches item_starts t) x y

-- As many braces are opened as closed.
pub record Balanced (ts : List Lexeme) : Type 0 where
  pub braces : ℕ
  pub opens : (a : ℕ) → up opening a ts ≡ braces + a
  pub closes : (a : ℕ) → up closing a ts ≡ braces + a

pub balanced-none : Balanced []
balanced-none = record { braces = 0; opens = λ a. omega arith; closes = λ a. omega arith }

more : (c : Class) (k l a : ℕ) (x y : List Lexeme) → up c a x ≡ k + a → up c (k + a) y ≡ l + (k + a) → up c a (x ++ y) ≡ (l + k) + a
more c k l a x y p q = up-append c a x y ∙ ap (λ z. up c z y) p ∙ q ∙ sum
  where
    sum : l + (k + a) ≡ (l + k) + a
    sum = omega arith

pub balanced-two : (x y : List Lexeme) → Balanced x → Balanced y → Balanced (x ++ y)
balanced-two x y p q = record {
  braces = q.braces + p.braces;
  opens = λ a. more opening p.braces q.braces a x y (p.opens a) (q.opens (p.braces + a));
  closes = λ a. more closing p.braces q.braces a x y (p.closes a) (q.closes (p.braces + a));
}

pub add-none : (c : Class) (t : Lexeme) (a : ℕ) → matches c t ≡ false → add c t a ≡ a
add-none c t a h = rw h zero-more
  where
    zero-more : 0 + a ≡ a
    zero-more = omega arith

pub add-one : (c : Class) (t : Lexeme) (a : ℕ) → matches c t ≡ true → add c t a ≡ 1 + a
add-one c t a h = rw h refl

pub balanced-token : (t : Lexeme) → matches opening t ≡ false → matches closing t ≡ false → Balanced (t ∷ [])
balanced-token t h k = record { braces = 0; opens = λ a. rw h refl; closes = λ a. rw k refl }

-- Where few braces are open, no loop begins too deep.
pub record Shallow (ts : List Lexeme) : Type 0 where
  pub balanced : Balanced ts
  pub quiet : (n a b : ℕ) (s : Bool) → suc a ≤ n + b → no_loop n a b s ts ≡ true

pub shallow-none : Shallow []
shallow-none = record { balanced = balanced-none; quiet = λ n a b s h. refl }

pub shallow-two : (x y : List Lexeme) → Shallow x → Shallow y → Shallow (x ++ y)
shallow-two x y p q = record { balanced = balanced-two x y p.balanced q.balanced; quiet = quiet }
  where
    further : (n a b k : ℕ) → suc a ≤ n + b → suc (k + a) ≤ n + (k + b)
    further n a b k h = omega arith

    quiet : (n a b : ℕ) (s : Bool) → suc a ≤ n + b → no_loop n a b s (x ++ y) ≡ true
    quiet n a b s h =
        no-append n a b s x y ∙ ap (λ z. z && no_loop n (up opening a x) (up closing b x) (lets s x) y) (p.quiet n a b s h)
        ∙ ap (λ z. no_loop n z (up closing b x) (lets s x) y) (p.balanced.opens a) ∙ ap (λ z. no_loop n (p.balanced.braces + a) z (lets s x) y) (p.balanced.closes b)
        ∙ q.quiet n (p.balanced.braces + a) (p.balanced.braces + b) (lets s x) (further n a b p.balanced.braces h)

not-deep : (x y z : Bool) → z ≡ false → not (x && (y && z)) ≡ true
not-deep true true z h = rw h refl
not-deep true false z h = refl
not-deep false y z h = refl

-- A token from which few braces are open begins no loop too deep.
pub token-quiet : (n a b : ℕ) (s : Bool) (t : Lexeme) → add opening t a ≤ n + add closing t b → no_loop n a b s (t ∷ []) ≡ true
token-quiet n a b s t h = ap (λ z. z && true) (not-deep s (is_for t) _ (le-ltb (n + add closing t b) (add opening t a) h))

grow : (c : Class) (t : Lexeme) (a : ℕ) → a ≤ add c t a
grow c t a = by (matches c t)
  where
    by : (x : Bool) → a ≤ cond x 1 0 + a
    by true = omega arith
    by false = omega arith

up-more : (c : Class) (ts : List Lexeme) (a : ℕ) → a ≤ up c a ts
up-more c [] a = omega arith
up-more c (t ∷ ts) a = let h : add c t a ≤ up c (add c t a) ts = up-more c ts (add c t a) in let k : a ≤ add c t a = grow c t a in omega arith

-- Where all that the tokens open leaves few braces open, no loop begins too deep.
pub low-quiet : (n : ℕ) (ts : List Lexeme) (a b : ℕ) (s : Bool) → up opening a ts ≤ n + b → no_loop n a b s ts ≡ true
low-quiet n [] a b s h = refl
low-quiet n (t ∷ ts) a b s h =
    let k : add opening t a ≤ up opening (add opening t a) ts = up-more opening ts (add opening t a) in
    let l : b ≤ add closing t b = grow closing t b in
    and_from (not (too_deep n a b s t)) _ (not-deep s (is_for t) _ (le-ltb (n + add closing t b) (add opening t a) (omega arith))) (low-quiet n ts (add opening t a) (add closing t b) (matches item_starts t) (omega arith))

pub shallow-token : (t : Lexeme) → matches opening t ≡ false → matches closing t ≡ false → Shallow (t ∷ [])
shallow-token t h k = record { balanced = balanced-token t h k; quiet = λ n a b s i. token-quiet n a b s t (within n a b i) }
  where
    within : (n a b : ℕ) → suc a ≤ n + b → add opening t a ≤ n + add closing t b
    within n a b i = rw (add-none opening t a h, add-none closing t b k) (omega arith)

-- No item may stand behind any of the tokens.
abbrev pub Calm : List Lexeme → Type 0
Calm [] = Unit {0}
Calm (t ∷ ts) = (matches item_starts t ≡ false) × Calm ts

pub calm-two : (x y : List Lexeme) → Calm x → Calm y → Calm (x ++ y)
calm-two [] y p q = q
calm-two (t ∷ x) y (h, p) q = (h, calm-two x y p q)

pub calm-lets : (ts : List Lexeme) → Calm ts → lets false ts ≡ false
calm-lets [] h = refl
calm-lets (t ∷ ts) (e, h) = ap (λ s. lets s ts) e ∙ calm-lets ts h

-- Behind a token that lets no item begin, calm tokens and one more begin no loop.
pub calm-quiet : (n a b : ℕ) (ts : List Lexeme) → Calm ts → no_loop n a b false ts ≡ true
calm-quiet n a b [] h = refl
calm-quiet n a b (t ∷ ts) (e, h) = ap (λ s. no_loop n (add opening t a) (add closing t b) s ts) e ∙ calm-quiet n (add opening t a) (add closing t b) ts h
