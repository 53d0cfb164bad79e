-- What is counted, with one more token; a loop in so many others begins, or not.
use Rattle.std.proofs.Common.{◌≡◌, ◌∙◌, ◌↔◌, ℕ, ◌+◌, ◌<◌, nat_lt, Bool, true, false, ◌&&◌, List, [], ◌∷◌, ◌++◌, inl, inr, refl, sym, ap, rules, length, take, get_or, codes}
use Rattle.std.specs.Bool.{IsTrue}
use Rattle.reo_grammar.specs.Tokens.{Lexeme, matches}
use Rattle.reo_grammar.specs.Tokens.Class.{fixed}
use Rattle.reo_grammar.specs.Levels.{count_of}
use Rattle.reo_lexer.specs.declared.token.Token.{Token}
use Rattle.reo_lexer.specs.Lexing.{lexeme_of, lexemes_of}
use Rattle.reo_trees.specs.SaysTwo.{IsLooped, item_starts, most_loops}
use Rattle.reo_trees.specs.loops.Places.{is_for, lets_item, begins_loop}
use Rattle.reo_trees.proofs.loops.Places.{lets_next, begins_next, looped-so, looped-only}
use Rattle.reo_terms.proofs.Decided.{Decided, less-decided}
use Rattle.reo_parser.proofs.Fronts.{take-next}
use Rattle.reo_parser.specs.declared.two.depth.LoopDepth.{LoopDepth}
use Rattle.reo_parser.specs.two.LoopDepth.{Deepens}

pub looped-decided : (limit : ℕ) (ts : List Lexeme) → Decided (IsLooped limit ts)
looped-decided limit ts = by (begins_loop ts) refl (less-decided (limit + count_of (fixed (codes "}")) ts) (count_of (fixed (codes "{")) ts))
  where
    by : (b : Bool) → begins_loop ts ≡ b → Decided (limit + count_of (fixed (codes "}")) ts < count_of (fixed (codes "{")) ts) → Decided (IsLooped limit ts)
    by false e d = inr (λ l. let h : begins_loop ts ≡ true = (looped-only limit ts l).0 in absurd (cc))
    by true e (inl l) = inl (looped-so limit ts (e, l))
    by true e (inr n) = inr (λ l. n (looped-only limit ts l).1)

pub deepens-next : (text : List ℕ) (ts : List Token) (n : ℕ) (d : Token) (l m : LoopDepth) (s : Lexeme) → n < length ts → s ≡ lexeme_of text (get_or ts n d)
    → Deepens l (take n (lexemes_of text ts)) → ((us : List Lexeme) → Deepens l us → Deepens m (us ++ s ∷ [])) → Deepens m (take (n + 1) (lexemes_of text ts))
deepens-next text ts n d l m s h e c f = rw (take-next text ts n d h, ← e) (f (take n (lexemes_of text ts)) c)

-- Whether an item may begin behind one more token, and whether a loop begins with it.
pub starts-next : (ts : List Lexeme) (t : Lexeme) (b : Bool) → b ≡ matches item_starts t → b ≡ lets_item (ts ++ t ∷ [])
starts-next ts t b e = e ∙ sym (lets_next ts t)

pub begins-here : (ts : List Lexeme) (t : Lexeme) (s b : Bool) → s ≡ lets_item ts → s ≡ true → b ≡ is_for t → b ≡ begins_loop (ts ++ t ∷ [])
begins-here ts t s b h i e = e ∙ (ap (λ x. x && is_for t) (sym i ∙ h) ∙ sym (begins_next ts t))

pub begins-nowhere : (ts : List Lexeme) (t : Lexeme) (s : Bool) → s ≡ lets_item ts → s ≡ false → s ≡ begins_loop (ts ++ t ∷ [])
begins-nowhere ts t s h i = i ∙ (ap (λ x. x && is_for t) (sym i ∙ h) ∙ sym (begins_next ts t))

-- Whether a loop in so many others begins, by the counts.
pub looped-here : (d : LoopDepth) (ts : List Lexeme) → Deepens d ts → d.looping ≡ true → IsTrue (nat_lt (most_loops + d.closed) d.opened) ↔ IsLooped most_loops ts
looped-here d ts h l = (
  λ i. looped-so most_loops ts (sym h.looping ∙ l, rw (← h.closed, ← h.opened) (less i)),
  λ i. more (rw (h.closed, h.opened) (looped-only most_loops ts i).1),
)
  where
    less : {a b : ℕ} → IsTrue (nat_lt a b) → a < b
    less i = search rules

    more : {a b : ℕ} → a < b → IsTrue (nat_lt a b)
    more i = search rules

pub looped-nowhere : (d : LoopDepth) (ts : List Lexeme) → Deepens d ts → d.looping ≡ false → IsTrue d.looping ↔ IsLooped most_loops ts
looped-nowhere d ts h l = (
  λ i. let j : d.looping ≡ true = i in absurd (cc),
  λ i. let j : begins_loop ts ≡ true = (looped-only most_loops ts i).0 in h.looping ∙ j,
)
