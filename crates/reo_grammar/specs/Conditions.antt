-- What a grammar must meet to be read, beside being decided by one token of sight: every part of it derives
-- something, and no rule stands before a token of its own.
use Rattle.std.specs.Prelude.{ℕ, ◌+◌, Bool, true, false, ◌&&◌, ◌||◌, not, cond, List, [], ◌∷◌}
use Rattle.reo_grammar.specs.declared.kind.TokenKind.{TokenKind}
use Rattle.reo_grammar.specs.declared.kind.TokenKind.TheVariants as kinds
use Rattle.reo_values.specs.Bytes.{quote}
use Rattle.reo_values.specs.Names.{is_letter}
use Rattle.reo_grammar.specs.Tokens.{Lexeme, Class, matches, is_real}
use Rattle.reo_grammar.specs.Tokens.Class.{fixed, among, other, name, named, number, text}
use Rattle.reo_grammar.specs.Grammar.{Grammar}
use Rattle.reo_grammar.specs.Grammar.Grammar.{nothing, token, both, made, either, chain, lined, rule}

-- Bytes that begin with a letter are a word, others a sign.
abbrev pub fixed_kind : List ℕ → TokenKind
fixed_kind [] = kinds.Sign
fixed_kind (b ∷ bs) = cond (is_letter b) kinds.Word kinds.Sign

abbrev pub fixed_token : List ℕ → Lexeme
fixed_token b = record { kind = fixed_kind b; bytes = b; line = 0 }

-- A token of a class.
abbrev pub sample : Class → Lexeme
sample (fixed b) = fixed_token b
sample (among []) = fixed_token []
sample (among (b ∷ bs)) = fixed_token b
sample (other b) = record { kind = kinds.Name; bytes = 97 ∷ []; line = 0 }
sample name = record { kind = kinds.Name; bytes = 97 ∷ []; line = 0 }
sample (named b) = record { kind = kinds.Name; bytes = b; line = 0 }
sample (number low high) = record { kind = kinds.Number; bytes = (48 + low) ∷ []; line = 0 }
sample text = record { kind = kinds.Text; bytes = quote ∷ quote ∷ []; line = 0 }

-- The class has a token that texts have.
abbrev pub is_inhabited : Class → Bool
is_inhabited c = matches c (sample c) && is_real (sample c)

-- It derives the empty list of tokens. No rule does.
abbrev pub is_nullable : {Ref : Type 0} {tree : Ref → Type 0} {A : Type 0} → Grammar Ref tree A → Bool
is_nullable (nothing x) = true
is_nullable (token c) = false
is_nullable (both f g h) = is_nullable g && is_nullable h
is_nullable (made f g) = is_nullable g
is_nullable (either c g h) = is_nullable g || is_nullable h
is_nullable (chain f c g h) = is_nullable g
is_nullable (lined f g) = is_nullable g
is_nullable (rule r) = false

-- No rule stands in it before a token.
abbrev pub is_guarded : {Ref : Type 0} {tree : Ref → Type 0} {A : Type 0} → Grammar Ref tree A → Bool
is_guarded (nothing x) = true
is_guarded (token c) = true
is_guarded (both f g h) = is_guarded g && (not (is_nullable g) || is_guarded h)
is_guarded (made f g) = is_guarded g
is_guarded (either c g h) = is_guarded g && is_guarded h
is_guarded (chain f c g h) = is_guarded g && is_guarded h
is_guarded (lined f g) = is_guarded g
is_guarded (rule r) = false

-- Each class that it names has a token that texts have, and what has a line has a token.
abbrev pub is_productive : {Ref : Type 0} {tree : Ref → Type 0} {A : Type 0} → Grammar Ref tree A → Bool
is_productive (nothing x) = true
is_productive (token c) = is_inhabited c
is_productive (both f g h) = is_productive g && is_productive h
is_productive (made f g) = is_productive g
is_productive (either c g h) = is_productive g && is_productive h
is_productive (chain f c g h) = not (is_nullable h) && (is_productive g && is_productive h)
is_productive (lined f g) = not (is_nullable g) && is_productive g
is_productive (rule r) = true
