-- What begins with no digit.
use Rattle.std.proofs.Common.{ℕ, List, [], ◌∷◌, ◌++◌}
use Rattle.reo_values.specs.decimals.Digits.{NoDigit}
use Rattle.reo_trace_reader.specs.Ends.{BeginsNoDigit}

-- still begins with none where more follows
pub begins_no_digit : (word rest : List ℕ) → BeginsNoDigit word → NoDigit (word ++ rest)
begins_no_digit [] rest h = absurd h
begins_no_digit (byte ∷ bytes) rest h = h
