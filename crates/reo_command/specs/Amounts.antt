-- Amounts that commands are told: numbers, each a word by itself.
use Rattle.std.specs.Prelude.{ℕ, ◌&&◌, Bool, true, false, List, [], ◌∷◌, Option, slice_index_or}
use Rattle.std.specs.Option.{is_some, unwrap_or}
use Rattle.reo_command.specs.declared.amount.Amount.{Amount}
use Rattle.reo_command.specs.declared.amount.Amount.TheVariants.{Size}
use Rattle.reo_command.specs.Numbers.{number_in}

-- The least amount.
abbrev pub least_amount : Amount → ℕ
least_amount Size = 1

-- The greatest.
abbrev pub most_amount : Amount → ℕ
most_amount Size = 256

-- The amount that a word says.
abbrev pub amount_in : Amount → List ℕ → Option ℕ
amount_in a word = number_in (least_amount a) (most_amount a) word

-- A word for each of these amounts stands at the front.
abbrev pub are_amounts : List Amount → List (List ℕ) → Bool
are_amounts [] words = true
are_amounts (a ∷ others) [] = false
are_amounts (a ∷ others) (word ∷ words) = is_some (amount_in a word) && are_amounts others words

-- The size of the work that is made, by the words.
abbrev pub size_of : List (List ℕ) → ℕ
size_of words = unwrap_or (amount_in Size (slice_index_or words 1 [])) (least_amount Size)
