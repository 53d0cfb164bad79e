-- Where a loop begins, token by token.
use Rattle.std.proofs.Common.{◌≡◌, ◌∙◌, ℕ, ◌+◌, ◌<◌, true, ◌&&◌, List, [], ◌∷◌, ◌++◌, refl, ap, codes}
use Rattle.reo_grammar.specs.Tokens.{Lexeme, matches}
use Rattle.reo_grammar.specs.Tokens.Class.{fixed}
use Rattle.reo_grammar.specs.Levels.{count_of}
use Rattle.reo_trees.specs.SaysTwo.{item_starts, IsLooped}
use Rattle.reo_trees.specs.loops.Places.{is_for, lets_item, begins_loop}
use Rattle.std.proofs.lemmas.Bool.{and_from as and-true, and_parts}

-- With one more token.
pub lets_next : (ts : List Lexeme) (t : Lexeme) → lets_item (ts ++ t ∷ []) ≡ matches item_starts t
lets_next [] t = refl
lets_next (s ∷ []) t = refl
lets_next (s ∷ u ∷ ts) t = lets_next (u ∷ ts) t

pub begins_next : (ts : List Lexeme) (t : Lexeme) → begins_loop (ts ++ t ∷ []) ≡ (lets_item ts && is_for t)
begins_next [] t = refl
begins_next (s ∷ []) t = refl
begins_next (s ∷ u ∷ []) t = refl
begins_next (s ∷ u ∷ v ∷ ts) t = begins_next (u ∷ v ∷ ts) t

-- Two tokens that begin a loop at the end.
abbrev Begins : List Lexeme → Type 0
Begins ts = (a : List Lexeme) × (b : Lexeme) × (t : Lexeme) × (ts ≡ a ++ (b ∷ t ∷ [])) × (matches item_starts b ≡ true) × (is_for t ≡ true)

begins-so : (ts : List Lexeme) → begins_loop ts ≡ true → Begins ts
begins-so [] h = absurd (cc)
begins-so (t ∷ []) h = absurd (cc)
begins-so (t ∷ u ∷ []) h =
    let (m, n) = and_parts (matches item_starts t) (is_for u) h in
    ([], t, u, refl, m, n)
begins-so (t ∷ u ∷ v ∷ ts) h =
    let (a, b, s, e, m, n) = begins-so (u ∷ v ∷ ts) h in
    (t ∷ a, b, s, ap (λ l. t ∷ l) e, m, n)

at-end : (a : List Lexeme) (b t : Lexeme) → begins_loop (a ++ (b ∷ t ∷ [])) ≡ (matches item_starts b && is_for t)
at-end [] b t = refl
at-end (s ∷ []) b t = refl
at-end (s ∷ u ∷ []) b t = refl
at-end (s ∷ u ∷ v ∷ a) b t = at-end (u ∷ v ∷ a) b t

begins-only : (ts : List Lexeme) → Begins ts → begins_loop ts ≡ true
begins-only ts (a, b, t, e, m, n) = ap begins_loop e ∙ at-end a b t ∙ and-true (matches item_starts b) (is_for t) m n

abbrev Within : ℕ → List Lexeme → Type 0
Within limit ts = limit + count_of (fixed (codes "}")) ts < count_of (fixed (codes "{")) ts

pub looped-so : (limit : ℕ) (ts : List Lexeme) → (begins_loop ts ≡ true) × Within limit ts → IsLooped limit ts
looped-so limit ts (h, l) =
    let (a, b, t, e, m, n) = begins-so ts h in
    (a, b, t, e, m, n, l)

pub looped-only : (limit : ℕ) (ts : List Lexeme) → IsLooped limit ts → (begins_loop ts ≡ true) × Within limit ts
looped-only limit ts (a, b, t, e, m, n, l) = (begins-only ts (a, b, t, e, m, n), l)
