-- What is counted, with one more token.
use Rattle.std.proofs.Common.{◌≡◌, ℕ, ◌+◌, ◌<◌, List, [], ◌∷◌, ◌++◌, length, take, get_or}
use Rattle.reo_grammar.specs.Tokens.{Lexeme}
use Rattle.reo_lexer.specs.declared.token.Token.{Token}
use Rattle.reo_lexer.specs.Lexing.{lexeme_of, lexemes_of}
use Rattle.reo_terms.proofs.Fronts.{take-next}
use Rattle.reo_script.specs.declared.depth.RepeatDepth.{RepeatDepth}
use Rattle.reo_script.specs.RepeatDepth.{Deepens}

pub deepens-next : (text : List ℕ) (ts : List Token) (n : ℕ) (d : Token) (l m : RepeatDepth) (s : Lexeme) → n < length ts → s ≡ lexeme_of text (get_or ts n d)
    → Deepens l (take n (lexemes_of text ts)) → ((us : List Lexeme) → Deepens l us → Deepens m (us ++ s ∷ [])) → Deepens m (take (n + 1) (lexemes_of text ts))
deepens-next text ts n d l m s h e c f = rw (take-next text ts n d h, ← e) (f (take n (lexemes_of text ts)) c)
