-- One of several words, word by word.
use Rattle.std.proofs.Common.{◌≡◌, ℕ, Bool, true, false, ◌&&◌, ◌||◌, List, ◌∷◌, refl}
use Rattle.std.specs.Str.{bytes_eq}
use Rattle.reo_grammar.specs.Bytes.{one_of}
use Rattle.reo_grammar.specs.Tokens.{Lexeme, is_fixed, matches}
use Rattle.reo_grammar.specs.Tokens.Class.{fixed, among}
pub use Rattle.reo_grammar.proofs.Classes.{starts_among-cons as among_more}

and-or : (a b c : Bool) → (a && (b || c)) ≡ ((a && b) || (a && c))
and-or true b c = refl
and-or false b c = refl

pub matches_more : (b : List ℕ) (bs : List (List ℕ)) (t : Lexeme) → matches (among (b ∷ bs)) t ≡ (matches (fixed b) t || matches (among bs) t)
matches_more b bs t = and-or (is_fixed t.kind) (bytes_eq t.bytes b) (one_of t.bytes bs)
