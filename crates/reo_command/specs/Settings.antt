-- The options of commands: numbers, each behind a word of its own.
use Rattle.std.specs.Prelude.{ℕ, cond, Bool, false, List, [], ◌∷◌, Option, Some, None, drop, codes, option_and_then, option_map, slice_index_or}
use Rattle.std.specs.Str.{bytes_eq}
use Rattle.reo_command.specs.declared.setting.Setting.{Setting}
use Rattle.reo_command.specs.declared.setting.Setting.TheVariants.{Budget, Rounds}
use Rattle.reo_command.specs.Numbers.{number_in}

-- The word of an option.
abbrev pub setting_word : Setting → List ℕ
setting_word Budget = codes "--budget"
setting_word Rounds = codes "--rounds"

-- The least number that may stand behind it.
abbrev pub least : Setting → ℕ
least Budget = 1
least Rounds = 1

-- The greatest.
abbrev pub most : Setting → ℕ
most Budget = 1000000000
most Rounds = 1000000000

-- The number that stands for it where it is absent.
abbrev pub absent : Setting → ℕ
absent Budget = 100000
absent Rounds = 100000

-- The number that a word says, in the range of the option.
abbrev pub number_behind : Setting → List ℕ → Option ℕ
number_behind s word = number_in (least s) (most s) word

-- Whether the option stands at the front of these words.
abbrev pub stands : Setting → List (List ℕ) → Bool
stands s [] = false
stands s (word ∷ words) = bytes_eq word (setting_word s)

-- The number of the option, in words at whose front it stands or is absent; none where no number of its range is behind its word.
abbrev pub number_of : Setting → List (List ℕ) → Option ℕ
number_of s words = cond (stands s words) (number_behind s (slice_index_or words 1 [])) (Some (absent s))

-- The words behind it.
abbrev pub behind : Setting → List (List ℕ) → List (List ℕ)
behind s words = cond (stands s words) (drop 2 words) words

-- The numbers of these options, in words that are nothing else than those of them that are not absent, in their order.
abbrev pub numbers_of : List Setting → List (List ℕ) → Option (List ℕ)
numbers_of [] [] = Some []
numbers_of [] (word ∷ words) = None
numbers_of (s ∷ ss) words = option_and_then (λ (n : ℕ). option_map (λ (ns : List ℕ). n ∷ ns) (numbers_of ss (behind s words))) (number_of s words)
