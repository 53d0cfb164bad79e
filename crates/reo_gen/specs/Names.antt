-- Names with a number.
use Rattle.std.specs.Prelude.{ℕ, List, ◌++◌, codes}
use Rattle.std.specs.Fmt.{decimal}

-- A word, and a number behind it.
abbrev pub numbered : List ℕ → ℕ → List ℕ
numbered word number = word ++ decimal number

-- The node that a stage gives on to the next.
abbrev pub link : ℕ → List ℕ
link number = numbered (codes "s") number

-- An output of the circuit.
abbrev pub output : ℕ → List ℕ
output number = numbered (codes "o") number
