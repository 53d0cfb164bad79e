-- Where a text of a language is refused, by its tokens. What is too deep is a fact on fronts.
use Rattle.std.specs.Prelude.{◌≡◌, ℕ, ◌+◌, ◌<◌, List, [], ◌∷◌, ◌++◌, length, take}
use Rattle.reo_grammar.specs.Tokens.{Lexeme}
use Rattle.reo_grammar.specs.Grammar.{Grammar, Refused, Begins}
use Rattle.reo_grammar.specs.Levels.{Nowhere}

-- The line of the last token.
abbrev pub last_line : List Lexeme → ℕ
last_line [] = 0
last_line (t ∷ []) = t.line
last_line (t ∷ u ∷ ts) = last_line (u ∷ ts)

-- The line of a refusal: that of the refused token, or of the last token where none is refused.
abbrev pub refused_line : List Lexeme → List Lexeme → ℕ
refused_line ts [] = last_line ts
refused_line ts (t ∷ u) = t.line

-- The tokens are refused on this line, and none before that is too deep. Where they only begin a text, the refusal stands
-- behind all of them.
abbrev pub IsRefusedAt : {Ref : Type 0} {tree : Ref → Type 0} {A : Type 0} → ((r : Ref) → Grammar Ref tree (tree r)) → Grammar Ref tree A → (List Lexeme → Type 0) → List Lexeme → ℕ → Type 0
IsRefusedAt rules form Deep ts line =
    (a : List Lexeme) × (u : List Lexeme) × (ts ≡ a ++ u) × Refused rules form ts u × Nowhere Deep a × (line ≡ refused_line ts u)

-- The first token that is too deep is on this line, and those up to and including it begin a text.
abbrev pub IsDeepAt : {Ref : Type 0} {tree : Ref → Type 0} {A : Type 0} → ((r : Ref) → Grammar Ref tree (tree r)) → Grammar Ref tree A → (List Lexeme → Type 0) → List Lexeme → ℕ → Type 0
IsDeepAt rules form Deep ts line =
    (a : List Lexeme) × (t : Lexeme) × (u : List Lexeme) × (ts ≡ a ++ (t ∷ u)) × Deep (a ++ (t ∷ [])) × Nowhere Deep a
    × Begins rules form (a ++ (t ∷ [])) × (line ≡ t.line)

-- At this place stands the first token that is too deep.
abbrev pub IsFirstDeep : (List Lexeme → Type 0) → List Lexeme → ℕ → Type 0
IsFirstDeep Deep ts place = (place < length ts) × Deep (take (place + 1) ts) × Nowhere Deep (take place ts)
