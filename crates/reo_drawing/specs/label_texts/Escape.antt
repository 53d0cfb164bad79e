-- Texts between the quotes of a label.
use Rattle.std.specs.Prelude.{ℕ, ◌==◌, ◌++◌, ◌||◌, ◌&&◌, Bool, false, not, cond, if◌then◌else◌, nat_lt, nat_le, List, [], ◌∷◌, codes}
use Rattle.std.specs.Fmt.{decimal}
use Rattle.std.specs.List.{flat_map}
use Rattle.reo_values.specs.Bytes.{quote, backslash, line_feed}

-- A byte by its number.
unfoldable pub code_text : ℕ → List ℕ
code_text byte = codes "&#" ++ decimal byte ++ codes ";"

-- A byte that has a sign of its own, from the space to the tilde, and is no `&`, which begins the number of a byte.
abbrev pub is_sign : ℕ → Bool
is_sign byte = not ((byte == 38) || nat_lt byte 32 || nat_lt 126 byte)

-- A byte as it stands in a label: a quote and a backslash behind a backslash, a line feed as `\n`, and what is no sign by its
-- number.
abbrev pub escape : ℕ → List ℕ
escape byte =
    if byte == quote then codes "\\\"" else (if byte == backslash then codes "\\\\" else (if byte == line_feed then codes "\\n" else (if is_sign byte then byte ∷ [] else code_text byte)))

-- A label: a text as it stands in one, between quotes.
unfoldable pub label : List ℕ → List ℕ
label text = codes "\"" ++ flat_map escape text ++ codes "\""

-- A byte from the space to the tilde.
abbrev pub is_plain : ℕ → Bool
is_plain byte = nat_le 32 byte && nat_le byte 126

-- How a label is read, whether its next byte stands behind a backslash or not: such a byte is taken whatever it is, and else a
-- quote ends the label. All bytes are taken so, none is left to be behind a backslash, and each is from the space to the tilde.
abbrev pub stays_shut : Bool → List ℕ → Bool
stays_shut behind [] = not behind
stays_shut behind (byte ∷ rest) = is_plain byte && cond behind (stays_shut false rest) (not (byte == quote) && stays_shut (byte == backslash) rest)
