-- Numbers that words say.
use Rattle.std.specs.Prelude.{ℕ, ◌==◌, ◌&&◌, nat_le, cond, Bool, not, List, Option, Some, None, length}
use Rattle.std.specs.List.{list_all}
use Rattle.reo_values.specs.Names.{is_digit}
use Rattle.reo_grammar.specs.Tokens.{number_from}

-- One to ten digits, of which the first may be zero.
abbrev pub is_number : List ℕ → Bool
is_number word = not (length word == 0) && (nat_le (length word) 10 && list_all is_digit word)

-- The number that such a word says, between these bounds.
abbrev pub number_in : ℕ → ℕ → List ℕ → Option ℕ
number_in low high word =
    cond (is_number word && (nat_le low (number_from 0 word) && nat_le (number_from 0 word) high)) (Some (number_from 0 word)) None
