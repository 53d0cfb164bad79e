-- The bytes that texts give a meaning of their own.
use Rattle.std.specs.Prelude.{ℕ}

abbrev pub line_feed : ℕ
line_feed = 10

-- `"`
abbrev pub quote : ℕ
quote = 34

-- `#`
abbrev pub hash : ℕ
hash = 35

-- `(`
abbrev pub opening : ℕ
opening = 40

-- `)`
abbrev pub closing : ℕ
closing = 41

-- `,`
abbrev pub comma : ℕ
comma = 44

-- `\`
abbrev pub backslash : ℕ
backslash = 92
