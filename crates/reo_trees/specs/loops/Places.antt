-- Where loops begin, in tokens.
use Rattle.std.specs.Prelude.{Bool, false, ◌&&◌, List, [], ◌∷◌, codes}
use Rattle.reo_grammar.specs.Tokens.{Lexeme, matches}
use Rattle.reo_grammar.specs.Tokens.Class.{named}
use Rattle.reo_trees.specs.SaysTwo.{item_starts}

-- The name that begins a loop.
abbrev pub is_for : Lexeme → Bool
is_for t = matches (named (codes "for")) t

-- An item may stand behind the last of these tokens.
abbrev pub lets_item : List Lexeme → Bool
lets_item [] = false
lets_item (t ∷ []) = matches item_starts t
lets_item (t ∷ u ∷ ts) = lets_item (u ∷ ts)

-- The last of these tokens begins a loop.
abbrev pub begins_loop : List Lexeme → Bool
begins_loop [] = false
begins_loop (t ∷ []) = false
begins_loop (t ∷ u ∷ []) = matches item_starts t && is_for u
begins_loop (t ∷ u ∷ v ∷ ts) = begins_loop (u ∷ v ∷ ts)
