-- The line that has not ended yet.
use Rattle.std.specs.Prelude.{ℕ, nat_le, cond, List, ◌++◌, length}

-- The most bytes of a line.
abbrev pub most_bytes : ℕ
most_bytes = 65536

-- A line by its bytes; one that is too long is known as long alone.
pub data Held : Type 0 where
  short : List ℕ → Held
  long : Held

-- What is known of a line of these bytes.
abbrev pub held : List ℕ → Held
held bytes = cond (nat_le (length bytes) most_bytes) (short bytes) long

-- A line with more bytes at its end.
abbrev pub joined : Held → List ℕ → Held
joined (short bytes) more = held (bytes ++ more)
joined long more = long
