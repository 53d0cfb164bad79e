-- Lists of words in groups.
use Rattle.std.proofs.Common.{◌≡◌, ℕ, ◌||◌, List, [], ◌∷◌, ◌++◌, refl, ◌∙◌, ap}
use Rattle.std.specs.Str.{bytes_eq}
use Rattle.reo_grammar.specs.Bytes.{one_of}
use Rattle.reo_grammar.specs.Spelling.{frame_words, channel_words, item_words, term_words, script_words, reserved}
use Rattle.reo_grammar.proofs.Classes.{or_assoc}

pub one_of-append : (b : List ℕ) (xs ys : List (List ℕ)) → one_of b (xs ++ ys) ≡ (one_of b xs || one_of b ys)
one_of-append b [] ys = refl
one_of-append b (x ∷ xs) ys = ap (λ c. bytes_eq b x || c) (one_of-append b xs ys) ∙ or_assoc (bytes_eq b x) (one_of b xs) (one_of b ys)

-- The groups of the reserved words.
pub reserved_groups : (b : List ℕ)
    → one_of b reserved ≡ (one_of b frame_words || (one_of b channel_words || (one_of b item_words || (one_of b term_words || one_of b script_words))))
reserved_groups b =
    one_of-append b frame_words (channel_words ++ (item_words ++ (term_words ++ script_words)))
    ∙ ap (λ c. one_of b frame_words || c)
    (one_of-append b channel_words (item_words ++ (term_words ++ script_words))
    ∙ ap (λ c. one_of b channel_words || c)
    (one_of-append b item_words (term_words ++ script_words)
    ∙ ap (λ c. one_of b item_words || c) (one_of-append b term_words script_words)))
