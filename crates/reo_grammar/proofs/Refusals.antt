-- Refusals by the relation alone: what texts say, and where they are refused, stands once.
use Rattle.std.proofs.Common.{◌≡◌, suc, true, List, [], ◌∷◌, ◌++◌, length, ◌⊎◌, inl, inr, refl, sym, ◌∙◌, append_assoc, append-nil, arith}
use Rattle.reo_grammar.specs.Tokens.{Lexeme, AreReal}
use Rattle.reo_grammar.specs.Grammar.{Grammar, Outcome, Says, Begins, Refused, read, reads}
use Rattle.reo_grammar.specs.Grammar.Outcome.{got, bad, out}
use Rattle.reo_grammar.specs.Conditions.{is_productive}
use Rattle.reo_grammar.specs.Sight.{is_sighted}
use Rattle.reo_grammar.specs.Language.{Sighted}
use Rattle.reo_grammar.proofs.Sound.{real-append}
use Rattle.reo_grammar.proofs.Exact.{said, no-out, refused-exact, refused-rest}

pub real-front : (a b : List Lexeme) → AreReal (a ++ b) → AreReal a
real-front [] b h = tt
real-front (t ∷ a) b (h, hs) = (h, real-front a b hs)

pub real-back : (a b : List Lexeme) → AreReal (a ++ b) → AreReal b
real-back [] b h = h
real-back (t ∷ a) b (h, hs) = real-back a b hs

-- The second front goes on behind the first and its next token.
abbrev pub Longer : List Lexeme → Lexeme → List Lexeme → List Lexeme → Type 0
Longer a t u b = (m : List Lexeme) × (b ≡ a ++ (t ∷ m)) × AreReal m

cut : (a b u v : List Lexeme) (t s : Lexeme) → AreReal (a ++ (t ∷ u)) → AreReal (b ++ (s ∷ v)) → a ++ (t ∷ u) ≡ b ++ (s ∷ v)
    → (t ∷ u ≡ s ∷ v) ⊎ (Longer a t u b ⊎ Longer b s v a)
cut [] [] u v t s h k e = inl e
cut [] (x ∷ b) u v t s h k e = inr (inl (b, (let w : t ≡ x = cc in rw w refl), real-front b (s ∷ v) k.1))
cut (x ∷ a) [] u v t s h k e = inr (inr (a, (let w : s ≡ x = cc in rw w refl), real-front a (t ∷ u) h.1))
cut (x ∷ a) (y ∷ b) u v t s h k e =
    let w : x ≡ y = cc in let e2 : a ++ (t ∷ u) ≡ b ++ (s ∷ v) = cc in
    elim (cut a b u v t s h.1 k.1 e2) [
      | inl p ↦ inl p
      | inr (inl (m, q, r)) ↦ inr (inl (m, rw (w, q) refl, r))
      | inr (inr (m, q, r)) ↦ inr (inr (m, rw (← w) (rw q refl), r))
    ]

module _ {Ref : Type 0} {tree : Ref → Type 0} (rules : (r : Ref) → Grammar Ref tree (tree r)) {A : Type 0} (g : Grammar Ref tree A) where
  -- A front of what begins something begins something.
  pub begins-front : (a b : List Lexeme) → AreReal b → Begins rules g (a ++ b) → Begins rules g a
  begins-front a b h (c, x, r, (k, d)) = (b ++ c, x, real-append b c h r, (k, rw append_assoc at d))

  begins-next : (a u : List Lexeme) (t : Lexeme) → AreReal u → Begins rules g (a ++ (t ∷ u)) → Begins rules g (a ++ (t ∷ []))
  begins-next a u t h b = begins-front (a ++ (t ∷ [])) u h (rw append_assoc b)

  -- What says something begins something.
  pub says-begins : (ts : List Lexeme) (x : A) → Says rules g ts x → Begins rules g ts
  says-begins ts x (k, d) = ([], x, tt, (k, rw append-nil d))

  pub refused-silent : (ts u : List Lexeme) (x : A) → AreReal ts → Refused rules g ts u → Says rules g ts x → ⊥
  refused-silent ts [] x h (b, n) d = n x d
  refused-silent ts (t ∷ u) x h (a, w, b, n) d =
      let r : AreReal (a ++ (t ∷ u)) = rw (← w) h in
      n (begins-next a u t (real-back a (t ∷ u) r).1 (rw (← w) (says-begins ts x d)))

  within : (ts a u : List Lexeme) (t : Lexeme) → AreReal ts → ts ≡ a ++ (t ∷ u) → (Begins rules g (a ++ (t ∷ [])) → ⊥) → Begins rules g ts → ⊥
  within ts a u t h w n b =
      let r : AreReal (a ++ (t ∷ u)) = rw (← w) h in
      n (begins-next a u t (real-back a (t ∷ u) r).1 (rw (← w) b))

  pub one-refusal : (ts u v : List Lexeme) → AreReal ts → Refused rules g ts u → Refused rules g ts v → u ≡ v
  one-refusal ts [] [] h p q = refl
  one-refusal ts [] (s ∷ v) h (b, n) (a, w, c, m) = absurd (within ts a v s h w m b)
  one-refusal ts (s ∷ v) [] h (a, w, c, m) (b, n) = absurd (within ts a v s h w m b)
  one-refusal ts (t ∷ u) (s ∷ v) h (a, w, c, n) (b, x, d, m) =
      elim (cut a b u v t s (rw (← w) h) (rw (← x) h) (sym w ∙ x)) [
        | inl p ↦ p
        | inr (inl (l, q, r)) ↦ absurd (n (begins-next a l t r (rw q at d)))
        | inr (inr (l, q, r)) ↦ absurd (m (begins-next b l s r (rw q at c)))
      ]

-- Tokens say something or are refused.
pub decided : {Ref : Type 0} {tree : Ref → Type 0} {rules : (r : Ref) → Grammar Ref tree (tree r)} {A : Type 0} (s : Sighted Ref tree rules) (g : Grammar Ref tree A)
    → is_productive g ≡ true → is_sighted s.first s.more g ≡ true → (ts : List Lexeme) → ((x : A) × Says rules g ts x) ⊎ ((u : List Lexeme) × Refused rules g ts u)
decided {rules = rules} {A = A} s g p i ts = by (read (reads rules (suc (length ts))) g ts) refl
  where
    by : (o : Outcome A) → read (reads rules (suc (length ts))) g ts ≡ o → ((x : A) × Says rules g ts x) ⊎ ((u : List Lexeme) × Refused rules g ts u)
    by (got x []) e = inl (x, said s g p i (suc (length ts)) ts (omega arith) x e)
    by (got x (t ∷ u)) e = inr (t ∷ u, refused-rest s g p i (suc (length ts)) ts (omega arith) x t u e)
    by (bad u) e = inr (u, refused-exact s g p i (suc (length ts)) ts (omega arith) u e)
    by out e = absurd (no-out s g p i (suc (length ts)) ts (omega arith) e)
