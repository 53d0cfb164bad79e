-- How tokens are spelled: the bytes of each kind of token.
use Rattle.std.specs.Prelude.{ℕ, ◌==◌, Bool, true, false, ◌&&◌, not, cond, List, [], ◌∷◌, ◌++◌, nat_le, length, codes}
use Rattle.std.specs.List.{list_all}
use Rattle.reo_values.specs.Bytes.{quote, backslash}
use Rattle.reo_values.specs.Names.{is_digit, is_name}
use Rattle.reo_grammar.specs.declared.kind.TokenKind.{TokenKind}
use Rattle.reo_grammar.specs.declared.kind.TokenKind.TheVariants as kinds
use Rattle.reo_grammar.specs.Bytes.{is_unescaped, is_escaped, is_empty, one_of}

-- The words that no name is, in five groups.
abbrev pub frame_words : List (List ℕ)
frame_words =
    codes "type" ∷ codes "connector" ∷ codes "in" ∷ codes "out" ∷ codes "node" ∷ codes "use" ∷ codes "with" ∷ codes "when" ∷ codes "to" ∷ []

abbrev pub channel_words : List (List ℕ)
channel_words =
    codes "sync" ∷ codes "lossy" ∷ codes "syncdrain" ∷ codes "asyncdrain" ∷ codes "fifo1" ∷ codes "fifo" ∷ codes "filter" ∷ codes "map" ∷ []

abbrev pub item_words : List (List ℕ)
item_words =
    codes "unit" ∷ codes "bool" ∷ codes "int" ∷ codes "sym" ∷ codes "text" ∷ codes "pair" ∷ codes "true" ∷ codes "false" ∷ []

abbrev pub term_words : List (List ℕ)
term_words = codes "it" ∷ codes "first" ∷ codes "second" ∷ codes "length" ∷ codes "if" ∷ []

abbrev pub script_words : List (List ℕ)
script_words = codes "component" ∷ codes "write" ∷ codes "take" ∷ codes "within" ∷ codes "pause" ∷ codes "repeat" ∷ []

abbrev pub reserved : List (List ℕ)
reserved = frame_words ++ (channel_words ++ (item_words ++ (term_words ++ script_words)))

abbrev pub signs : List (List ℕ)
signs =
    codes "(" ∷ codes ")" ∷ codes "{" ∷ codes "}" ∷ codes "," ∷ codes ";" ∷ codes ":" ∷ codes "." ∷ codes ".." ∷ codes "=" ∷ codes "=="
    ∷ codes "!=" ∷ codes "<" ∷ codes "<=" ∷ codes ">" ∷ codes ">=" ∷ codes "+" ∷ codes "-" ∷ codes "*" ∷ codes "/" ∷ codes "%"
    ∷ codes "&&" ∷ codes "||" ∷ codes "!" ∷ []

-- One or more digits.
abbrev pub is_digits : List ℕ → Bool
is_digits [] = false
is_digits (b ∷ bs) = is_digit b && list_all is_digit bs

-- What stands behind the opening quote: unescaped bytes and escaped ones, and at the end, only there, the closing quote.
-- The flag says that a `\` has come.
abbrev pub is_closed : Bool → List ℕ → Bool
is_closed escape [] = false
is_closed true (b ∷ bs) = is_escaped b && is_closed false bs
is_closed false (b ∷ bs) = cond (b == quote) (is_empty bs) (cond (b == backslash) (is_closed true bs) (is_unescaped b && is_closed false bs))

-- The bytes have the form of a kind of token, a number's digits not counted.
abbrev pub spells : TokenKind → List ℕ → Bool
spells kinds.Name b = is_name b && not (one_of b reserved)
spells kinds.Word b = one_of b reserved
spells kinds.Number b = is_digits b
spells kinds.Text [] = false
spells kinds.Text (q ∷ b) = q == quote && is_closed false b
spells kinds.Sign b = one_of b signs

-- A number has at most 18 digits.
abbrev pub is_short : TokenKind → List ℕ → Bool
is_short kinds.Number b = nat_le (length b) 18
is_short _ b = true
