-- Bytes between quotes.
use Rattle.std.specs.Prelude.{ℕ, List, [], ◌∷◌, ◌++◌, if◌then◌else◌, ◌==◌, ◌||◌}
use Rattle.std.specs.List.{flat_map}
use Rattle.reo_values.specs.Bytes.{quote, backslash}

-- a quote and a backslash have a backslash before them
abbrev pub escape : ℕ → List ℕ
escape byte = if (byte == quote) || (byte == backslash) then backslash ∷ byte ∷ [] else byte ∷ []

-- bytes between quotes
abbrev pub quoted : List ℕ → List ℕ
quoted bytes = quote ∷ flat_map escape bytes ++ quote ∷ []
