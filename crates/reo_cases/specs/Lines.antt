-- The ends of lines.
use Rattle.std.specs.Prelude.{ℕ, Bool, nat_eq}

-- The byte is a line feed.
abbrev pub is_feed : ℕ → Bool
is_feed byte = nat_eq byte 10
