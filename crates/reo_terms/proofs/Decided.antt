-- Tokens say something, or are refused on a line, or are too deep on one.
use Rattle.std.proofs.Common.{◌≡◌, ℕ, zero, suc, ◌+◌, ◌<◌, true, List, [], ◌∷◌, ◌++◌, ◌⊎◌, inl, inr, refl, sym, ◌∙◌, subst, arith, append_assoc, append-nil, codes}
use Rattle.reo_grammar.specs.Tokens.{Lexeme, AreReal}
use Rattle.reo_grammar.specs.Grammar.{Grammar, Says, Begins, Refused}
use Rattle.reo_grammar.specs.Levels.{IsAbove, Nowhere, count_of, operators_at}
use Rattle.reo_grammar.specs.Tokens.Class.{fixed}
use Rattle.reo_grammar.specs.Language.{Sighted}
use Rattle.reo_grammar.specs.Sight.{is_sighted}
use Rattle.reo_grammar.specs.Conditions.{is_productive}
use Rattle.reo_grammar.proofs.Refusals.{real-front, real-back, begins-front, says-begins, decided}
use Rattle.reo_terms.specs.Refused.{refused_line, IsRefusedAt, IsDeepAt}
use Rattle.reo_terms.proofs.Fronts.{nowhere-none, nowhere-more, nowhere-front}
use Rattle.reo_terms.proofs.Only.{cuts}
use Rattle.reo_terms.proofs.Whole.{refused-cut}

-- A fact holds or not.
abbrev pub Decided : Type 0 → Type 0
Decided P = P ⊎ (P → ⊥)

pub either-decided : {P Q : Type 0} → Decided P → Decided Q → Decided (P ⊎ Q)
either-decided (inl p) q = inl (inl p)
either-decided (inr n) (inl q) = inl (inr q)
either-decided (inr n) (inr m) = inr (λ r. elim r [ inl p ↦ n p | inr q ↦ m q ])

pub less-decided : (n m : ℕ) → Decided (n < m)
less-decided n zero = inr (λ h. omega arith)
less-decided zero (suc m) = inl (omega arith)
less-decided (suc n) (suc m) = elim (less-decided n m) [ inl h ↦ inl (omega arith) | inr h ↦ inr (λ k. h (omega arith)) ]

pub above-decided : (limit : ℕ) (ts : List Lexeme) → Decided (IsAbove limit ts)
above-decided limit ts = less-decided (limit + count_of (fixed (codes ")")) ts) (count_of (fixed (codes "(")) ts + operators_at ts)

module _ (Deep : List Lexeme → Type 0) where
  -- The first token that is too deep.
  abbrev pub FirstDeep : List Lexeme → Type 0
  FirstDeep ts = (a : List Lexeme) × (t : Lexeme) × (u : List Lexeme) × (ts ≡ a ++ (t ∷ u)) × Deep (a ++ t ∷ []) × Nowhere Deep a

  from : ((ts : List Lexeme) → Decided (Deep ts)) → (a u : List Lexeme) → Nowhere Deep a → Nowhere Deep (a ++ u) ⊎ FirstDeep (a ++ u)
  from decides a [] none = inl (rw append-nil none)
  from decides a (t ∷ u) none = by (decides (a ++ t ∷ [])) (λ more. from decides (a ++ t ∷ []) u more) where
    by : Decided (Deep (a ++ t ∷ [])) → (Nowhere Deep (a ++ t ∷ []) → Nowhere Deep ((a ++ t ∷ []) ++ u) ⊎ FirstDeep ((a ++ t ∷ []) ++ u)) → Nowhere Deep (a ++ (t ∷ u)) ⊎ FirstDeep (a ++ (t ∷ u))
    by (inl deep) rest = inr (a, t, u, refl, deep, none)
    by (inr not_deep) rest = subst (λ l. Nowhere Deep l ⊎ FirstDeep l) (append_assoc a (t ∷ []) u) (rest (nowhere-more Deep a t none not_deep))

  pub first_deep : ((ts : List Lexeme) → Decided (Deep ts)) → (ts : List Lexeme) → Nowhere Deep ts ⊎ FirstDeep ts
  first_deep decides ts = from decides [] ts (nowhere-none Deep)

module _ {Ref : Type 0} {tree : Ref → Type 0} {A : Type 0} (rules : (r : Ref) → Grammar Ref tree (tree r)) (form : Grammar Ref tree A) (Deep : List Lexeme → Type 0) where
  -- What tokens are answered.
  abbrev pub Answered : List Lexeme → Type 0
  Answered ts = ((x : A) × (Says rules form ts x × Nowhere Deep ts)) ⊎ (((line : ℕ) × IsRefusedAt rules form Deep ts line) ⊎ ((line : ℕ) × IsDeepAt rules form Deep ts line))

  -- What begins a text begins one up to each of its tokens.
  begun : (ts a u : List Lexeme) (t : Lexeme) → AreReal ts → ts ≡ a ++ (t ∷ u) → Begins rules form ts → Begins rules form (a ++ t ∷ [])
  begun ts a u t real w b =
      let r : AreReal (t ∷ u) = real-back a (t ∷ u) (rw (← w) real) in
      let c : Begins rules form ((a ++ t ∷ []) ++ u) = subst (Begins rules form) (w ∙ sym (append_assoc a (t ∷ []) u)) b in
      begins-front rules form (a ++ t ∷ []) u r.1 c

  deep_at : (ts : List Lexeme) → AreReal ts → (d : FirstDeep Deep ts) → Begins rules form (d.0 ++ d.1 ∷ []) → Answered ts
  deep_at ts real (a, t, u, w, deep, none) b = inr (inr (t.line, (a, t, u, w, deep, none, b, refl)))

  refused_at : (ts a v : List Lexeme) → ts ≡ a ++ v → Refused rules form ts v → Nowhere Deep a → Answered ts
  refused_at ts a v w r none = inr (inl (refused_line ts v, (a, v, w, r, none, refl)))

  -- The refusal, or the first token that is too deep, whichever stands first.
  first : (ts v : List Lexeme) → AreReal ts → Refused rules form ts v → FirstDeep Deep ts → Answered ts
  first ts [] real r (a, t, u, w, deep, none) = deep_at ts real (a, t, u, w, deep, none) (begun ts a u t real w r.0)
  first ts (s ∷ v) real (o, x, b, ends) (a, t, u, w, deep, none) = by (cuts a o u (s ∷ v) t (sym w ∙ x)) where
    by : ((y : List Lexeme) × (o ≡ a ++ (t ∷ y)) × (u ≡ y ++ (s ∷ v))) ⊎ ((y : List Lexeme) × (a ≡ o ++ y) × (s ∷ v ≡ y ++ (t ∷ u))) → Answered ts
    by (inl (y, g, h)) = deep_at ts real (a, t, u, w, deep, none) (begun o a y t (real-front o (s ∷ v) (rw (← x) real)) g b)
    by (inr (y, g, h)) = refused_at ts o (s ∷ v) x (o, x, b, ends) (nowhere-front Deep o y (subst (Nowhere Deep) g none))

  module _ (table : Sighted Ref tree rules) (productive : is_productive form ≡ true) (sighted : is_sighted (table.first) (table.more) form ≡ true) where
    pub answered : ((ts : List Lexeme) → Decided (Deep ts)) → (ts : List Lexeme) → AreReal ts → Answered ts
    answered decides ts real = by (decided table form productive sighted ts) (first_deep Deep decides ts) where
      by : ((x : A) × Says rules form ts x) ⊎ ((v : List Lexeme) × Refused rules form ts v) → Nowhere Deep ts ⊎ FirstDeep Deep ts → Answered ts
      by (inl (x, says)) (inl none) = inl (x, (says, none))
      by (inl (x, says)) (inr (a, t, u, w, deep, none)) = deep_at ts real (a, t, u, w, deep, none) (begun ts a u t real w (says-begins rules form ts x says))
      by (inr (v, r)) (inl none) =
          let (a, w) = refused-cut rules form ts v r in
          refused_at ts a v w r (nowhere-front Deep a v (subst (Nowhere Deep) w none))
      by (inr (v, r)) (inr d) = first ts v real r d
