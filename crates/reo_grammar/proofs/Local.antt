-- A reader looks no further than the token that it refuses.
use Rattle.std.proofs.Common.{◌≡◌, ℕ, zero, suc, ◌+◌, ◌≤◌, Bool, true, false, cond, List, [], ◌∷◌, ◌++◌, length, ◌⊎◌, inl, inr, refl, ap, arith, length-append}
use Rattle.std.proofs.lemmas.Bool.{and_parts}
use Rattle.reo_grammar.specs.Tokens.{Lexeme, Class, matches}
use Rattle.reo_grammar.specs.Conditions.{is_productive}
use Rattle.reo_grammar.specs.Grammar.{Grammar, Outcome, Derives, read, loop, then, starts, line_of}
use Rattle.reo_grammar.specs.Grammar.Grammar.{nothing, token, both, made, either, chain, lined, rule}
use Rattle.reo_grammar.specs.Grammar.Outcome.{got, bad, out}
use Rattle.reo_grammar.proofs.Sound.{Good, Base, good}
use Rattle.reo_grammar.proofs.Complete.{loop-enough, shrinks}

-- The rest is short.
abbrev pub Low : {A : Type 0} → ℕ → Outcome A → Type 0
Low n (got x s) = length s ≤ n
Low n (bad s) = length s ≤ n
Low n out = Unit {0}

good-low : {A : Type 0} (D : List Lexeme → A → Type 0) (n : ℕ) (ts : List Lexeme) (o : Outcome A) → Good D ts o → length ts ≤ n → Low n o
good-low D n ts (got x s) (a, e, d) h = omega (arith, ap length e, length-append a s)
good-low D n ts (bad s) (a, e, o) h = omega (arith, ap length e, length-append a s)
good-low D n ts out g h = tt

module _ (t : Lexeme) (r r' : List Lexeme) where
  -- The same up to the token t, and then what follows it.
  abbrev pub Alike : List Lexeme → List Lexeme → Type 0
  Alike ts ts' = (f : List Lexeme) × (ts ≡ f ++ (t ∷ r)) × (ts' ≡ f ++ (t ∷ r'))

  -- What ends before t has passed ends alike.
  abbrev pub Kept : {A : Type 0} → Outcome A → Outcome A → Type 0
  Kept (got x s) o = ((f : List Lexeme) × (s ≡ f ++ (t ∷ r)) × (o ≡ got x (f ++ (t ∷ r')))) ⊎ (length s ≤ length r)
  Kept (bad s) o = ((f : List Lexeme) × (s ≡ f ++ (t ∷ r)) × (o ≡ bad (f ++ (t ∷ r')))) ⊎ (length s ≤ length r)
  Kept out o = Unit {0}

  Low-kept : {A : Type 0} (o p : Outcome A) → Low (length r) o → Kept o p
  Low-kept (got x s) p h = inr h
  Low-kept (bad s) p h = inr h
  Low-kept out p h = tt

  Kept-then : {A B : Type 0} (o p : Outcome A) (k l : A → List Lexeme → Outcome B) → Kept o p
      → ((x : A) (f : List Lexeme) → Kept (k x (f ++ (t ∷ r))) (l x (f ++ (t ∷ r'))))
      → ((x : A) (s : List Lexeme) → length s ≤ length r → Low (length r) (k x s))
      → Kept (then o k) (then p l)
  Kept-then (got x s) p k l (inl (f, e, w)) next low = rw (e, w) (next x f)
  Kept-then (got x s) p k l (inr h) next low = Low-kept (k x s) (then p l) (low x s h)
  Kept-then (bad s) p k l (inl (f, e, w)) next low = rw w (inl (f, e, refl))
  Kept-then (bad s) p k l (inr h) next low = inr h
  Kept-then out p k l h next low = tt

  Kept-if : {A : Type 0} (b : Bool) (o p q u : Outcome A) → Kept o q → Kept p u → Kept (cond b o p) (cond b q u)
  Kept-if true o p q u h i = h
  Kept-if false o p q u h i = i

  starts-alike : (c : Class) (f : List Lexeme) → starts c (f ++ (t ∷ r')) ≡ starts c (f ++ (t ∷ r))
  starts-alike c [] = refl
  starts-alike c (u ∷ f) = refl

  line-alike : (f : List Lexeme) → line_of (f ++ (t ∷ r')) ≡ line_of (f ++ (t ∷ r))
  line-alike [] = refl
  line-alike (u ∷ f) = refl

  Kept-at : (b : Bool) (u : Lexeme) (f : List Lexeme) → Kept {A = Lexeme} (cond b (got u (f ++ (t ∷ r))) (bad (u ∷ (f ++ (t ∷ r))))) (cond b (got u (f ++ (t ∷ r'))) (bad (u ∷ (f ++ (t ∷ r')))))
  Kept-at true u f = inl (f, refl, refl)
  Kept-at false u f = inl (u ∷ f, refl, refl)

  Kept-here : (b : Bool) → Kept {A = Lexeme} (cond b (got t r) (bad (t ∷ r))) (cond b (got t r') (bad (t ∷ r')))
  Kept-here true = inr (omega arith)
  Kept-here false = inl ([], refl, refl)

  Low-then : {A B : Type 0} (o : Outcome A) (k : A → List Lexeme → Outcome B) → Low (length r) o → ((x : A) (s : List Lexeme) → length s ≤ length r → Low (length r) (k x s)) → Low (length r) (then o k)
  Low-then (got x s) k h low = low x s h
  Low-then (bad s) k h low = h
  Low-then out k h low = tt

  Low-if : {A : Type 0} (b : Bool) (o p : Outcome A) → Low (length r) o → Low (length r) p → Low (length r) (cond b o p)
  Low-if true o p h i = h
  Low-if false o p h i = i

  module _ {A B : Type 0} (f : A → B → A) (c : Class) (next : List Lexeme → Outcome B)
      (low : (s : List Lexeme) → length s ≤ length r → Low (length r) (next s))
      (kept : (g : List Lexeme) → Kept (next (g ++ (t ∷ r))) (next (g ++ (t ∷ r')))) where
    loop-low : (n : ℕ) (x : A) (s : List Lexeme) → length s ≤ length r → Low (length r) (loop f c next n x s)
    loop-low zero x s h = h
    loop-low (suc n) x s h = Low-if (starts c s) _ (got x s) (Low-then (next s) (λ y q. loop f c next n (f x y) q) (low s h) (λ y q i. loop-low n (f x y) q i)) h

    loop-kept : (n : ℕ) (x : A) (g : List Lexeme) → Kept (loop f c next n x (g ++ (t ∷ r))) (loop f c next n x (g ++ (t ∷ r')))
    loop-kept zero x g = inl (g, refl, refl)
    loop-kept (suc n) x g = rw (starts-alike c g) (Kept-if (starts c (g ++ (t ∷ r))) _ _ _ _
        (Kept-then (next (g ++ (t ∷ r))) (next (g ++ (t ∷ r'))) (λ y q. loop f c next n (f x y) q) (λ y q. loop f c next n (f x y) q) (kept g) (λ y h. loop-kept n (f x y) h) (λ y s h. loop-low n (f x y) s h))
        (inl (g, refl, refl)))

  module _ {Ref : Type 0} {tree : Ref → Type 0} (k : Base Ref tree) (each : (q : Ref) (f : List Lexeme) → Kept (k.reader q (f ++ (t ∷ r))) (k.reader q (f ++ (t ∷ r')))) where
    read-low : {A : Type 0} (g : Grammar Ref tree A) → is_productive g ≡ true → (s : List Lexeme) → length s ≤ length r → Low (length r) (read k.reader g s)
    read-low g p s h = good-low (Derives k.derives g) (length r) s (read k.reader g s) (good k g p s) h

    pub local : {A : Type 0} (g : Grammar Ref tree A) → is_productive g ≡ true → (f : List Lexeme) → Kept (read k.reader g (f ++ (t ∷ r))) (read k.reader g (f ++ (t ∷ r')))
    local (nothing x) p f = inl (f, refl, refl)
    local (token c) p [] = Kept-here (matches c t)
    local (token c) p (u ∷ f) = Kept-at (matches c u) u f
    local (both j g h) p f =
        Kept-then (read k.reader g (f ++ (t ∷ r))) (read k.reader g (f ++ (t ∷ r'))) _ _ (local g ((and_parts _ _ p).0) f)
        (λ x f2. Kept-then (read k.reader h (f2 ++ (t ∷ r))) (read k.reader h (f2 ++ (t ∷ r'))) (λ y s. got (j x y) s) (λ y s. got (j x y) s) (local h ((and_parts _ _ p).1) f2) (λ y f3. inl (f3, refl, refl)) (λ y s i. i))
        (λ x s i. Low-then (read k.reader h s) (λ y q. got (j x y) q) (read-low h ((and_parts _ _ p).1) s i) (λ y q i2. i2))
    local (made j g) p f =
        Kept-then (read k.reader g (f ++ (t ∷ r))) (read k.reader g (f ++ (t ∷ r'))) (λ x s. got (j x) s) (λ x s. got (j x) s) (local g p f) (λ x f2. inl (f2, refl, refl)) (λ x s i. i)
    local (either c g h) p f = rw (starts-alike c f) (Kept-if (starts c (f ++ (t ∷ r))) _ _ _ _ (local g ((and_parts _ _ p).0) f) (local h ((and_parts _ _ p).1) f))
    local (chain j c g h) p f =
        Kept-then (read k.reader g (f ++ (t ∷ r))) (read k.reader g (f ++ (t ∷ r'))) (λ x s. loop j c (read k.reader h) (length s) x s) (λ x s. loop j c (read k.reader h) (length s) x s)
        (local g ((and_parts _ _ ((and_parts _ _ p).1)).0) f)
        (λ x f2.
        let a = f2 ++ (t ∷ r) in let b = f2 ++ (t ∷ r') in
        let e1 : loop j c (read k.reader h) (length a) x a ≡ loop j c (read k.reader h) (length a + length b) x a = loop-enough j c (read k.reader h) (shrinks k h ((and_parts _ _ ((and_parts _ _ p).1)).1) ((and_parts _ _ p).0)) (length a) (length a + length b) x a (omega arith) (omega arith) in
        let e2 : loop j c (read k.reader h) (length b) x b ≡ loop j c (read k.reader h) (length a + length b) x b = loop-enough j c (read k.reader h) (shrinks k h ((and_parts _ _ ((and_parts _ _ p).1)).1) ((and_parts _ _ p).0)) (length b) (length a + length b) x b (omega arith) (omega arith) in
        rw (e1, e2) (loop-kept j c (read k.reader h) (read-low h ((and_parts _ _ ((and_parts _ _ p).1)).1)) (local h ((and_parts _ _ ((and_parts _ _ p).1)).1)) (length a + length b) x f2))
        (λ x s i. loop-low j c (read k.reader h) (read-low h ((and_parts _ _ ((and_parts _ _ p).1)).1)) (local h ((and_parts _ _ ((and_parts _ _ p).1)).1)) (length s) x s i)
    local (lined j g) p f = rw (line-alike f)
        (Kept-then (read k.reader g (f ++ (t ∷ r))) (read k.reader g (f ++ (t ∷ r'))) (λ x s. got (j (line_of (f ++ (t ∷ r))) x) s) (λ x s. got (j (line_of (f ++ (t ∷ r))) x) s)
        (local g ((and_parts _ _ p).1) f) (λ x f2. inl (f2, refl, refl)) (λ x s i. i))
    local (rule q) p f = each q f

-- What is refused at a token is refused there, whatever follows it.
pub refused : {A : Type 0} (t : Lexeme) (r r' : List Lexeme) (p : Outcome A) → Kept t r r' (bad (t ∷ r)) p → p ≡ bad (t ∷ r')
refused t r r' p (inl ([], e, w)) = w
refused t r r' p (inl (u ∷ f, e, w)) = absurd (omega (arith, ap length e, length-append f (t ∷ r)))
refused t r r' p (inr h) = absurd (omega arith)

-- What ends before a token ends there, whatever follows it.
pub passed : {A : Type 0} (t : Lexeme) (r r' : List Lexeme) (x : A) (p : Outcome A) → Kept t r r' (got x (t ∷ r)) p → p ≡ got x (t ∷ r')
passed t r r' x p (inl ([], e, w)) = w
passed t r r' x p (inl (u ∷ f, e, w)) = absurd (omega (arith, ap length e, length-append f (t ∷ r)))
passed t r r' x p (inr h) = absurd (omega arith)
