-- What no front of tokens does, by walking over them.
use Rattle.std.proofs.Common.{◌≡◌, ◌∙◌, ℕ, ◌+◌, ◌<◌, Bool, true, false, not, ◌&&◌, List, [], ◌∷◌, ◌++◌, refl, sym, ap, append_assoc}
use Rattle.std.proofs.Math.Dec.{ltb}
use Rattle.std.proofs.lemmas.Bool.{lt-ltb, ltb-true, and_parts, and_from}
use Rattle.reo_grammar.specs.Tokens.{Lexeme}
use Rattle.reo_grammar.specs.Levels.{count_of}
use Rattle.reo_grammar.proofs.Levels.{count_of-more}
use Rattle.reo_trees.specs.SaysTwo.{IsLooped}
use Rattle.reo_trees.specs.loops.Places.{is_for, lets_item}
use Rattle.reo_trees.proofs.loops.Places.{lets_next, begins_next, looped-so, looped-only}
use Rattle.reo_trees.proofs.loops.Scan.{opening, closing, add, too_deep, no_loop}

module _ (n : ℕ) where
  -- The tokens before, and the last one, begin a loop that is too deep.
  abbrev deep_at : List Lexeme → Lexeme → Bool
  deep_at p t = too_deep n (count_of opening p) (count_of closing p) (lets_item p) t

  deep-so : (p : List Lexeme) (t : Lexeme) → deep_at p t ≡ true → IsLooped n (p ++ t ∷ [])
  deep-so p t h =
      let s : lets_item p ≡ true = (and_parts _ _ h).0 in
      let r : (is_for t && ltb (n + add closing t (count_of closing p)) (add opening t (count_of opening p))) ≡ true = (and_parts (lets_item p) _ h).1 in
      let f : is_for t ≡ true = (and_parts _ _ r).0 in
      let l : n + add closing t (count_of closing p) < add opening t (count_of opening p) = ltb-true _ _ ((and_parts (is_for t) _ r).1) in
      looped-so n (p ++ t ∷ []) (begins_next p t ∙ and_from (lets_item p) (is_for t) s f, rw (count_of-more closing p t, count_of-more opening p t) l)

  deep-only : (p : List Lexeme) (t : Lexeme) → IsLooped n (p ++ t ∷ []) → deep_at p t ≡ true
  deep-only p t i =
      let (h, l) = looped-only n (p ++ t ∷ []) i in
      let k : (lets_item p && is_for t) ≡ true = sym (begins_next p t) ∙ h in
      let m : n + add closing t (count_of closing p) < add opening t (count_of opening p) = rw (count_of-more closing p t, count_of-more opening p t) at l in
      and_from (lets_item p) _ ((and_parts _ _ k).0) (and_from (is_for t) _ ((and_parts (lets_item p) _ k).1) (lt-ltb _ _ m))

  -- Behind the tokens p, no front of the tokens ts is one.
  abbrev Nowhere_behind : List Lexeme → List Lexeme → Type 0
  Nowhere_behind p ts = (a u : List Lexeme) (t : Lexeme) → ts ≡ a ++ (t ∷ u) → IsLooped n (p ++ (a ++ t ∷ [])) → ⊥

  abbrev walked : List Lexeme → List Lexeme → Bool
  walked p ts = no_loop n (count_of opening p) (count_of closing p) (lets_item p) ts

  step : (p : List Lexeme) (t : Lexeme) (ts : List Lexeme) → walked p (t ∷ ts) ≡ (not (deep_at p t) && walked (p ++ t ∷ []) ts)
  step p t ts = rw (count_of-more opening p t, count_of-more closing p t, lets_next p t) refl

  not-so : (b : Bool) → not b ≡ true → b ≡ true → ⊥
  not-so true h k = cc
  not-so false h k = cc

  so-not : (b : Bool) → (b ≡ true → ⊥) → not b ≡ true
  so-not true h = absurd (h refl)
  so-not false h = refl

  pub walked-so : (p ts : List Lexeme) → walked p ts ≡ true → Nowhere_behind p ts
  walked-so p [] h [] u t e i = cc
  walked-so p [] h (x ∷ a) u t e i = cc
  walked-so p (s ∷ ts) h [] u t e i =
      let k : s ≡ t = cc in
      let w : (not (deep_at p s) && walked (p ++ s ∷ []) ts) ≡ true = sym (step p s ts) ∙ h in
      not-so (deep_at p s) ((and_parts _ _ w).0) (deep-only p s (rw k i))
  walked-so p (s ∷ ts) h (x ∷ a) u t e i =
      let k : s ≡ x = cc in
      let r : ts ≡ a ++ (t ∷ u) = cc in
      let w : (not (deep_at p s) && walked (p ++ s ∷ []) ts) ≡ true = sym (step p s ts) ∙ h in
      walked-so (p ++ s ∷ []) ts ((and_parts (not (deep_at p s)) _ w).1) a u t r (rw (append_assoc p (s ∷ []) (a ++ t ∷ [])) (rw k i))

  pub walked-only : (p ts : List Lexeme) → Nowhere_behind p ts → walked p ts ≡ true
  walked-only p [] f = refl
  walked-only p (s ∷ ts) f =
      step p s ts ∙ and_from (not (deep_at p s)) _ (so-not (deep_at p s) (λ h. f [] ts s refl (deep-so p s h)))
      (walked-only (p ++ s ∷ []) ts (λ a u t e i. f (s ∷ a) u t (ap (λ l. s ∷ l) e) (rw (← append_assoc p (s ∷ []) (a ++ t ∷ [])) i)))
