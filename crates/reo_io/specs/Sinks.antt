-- What calls of a sink do to the bytes that it tells.
use Rattle.std.specs.Prelude.{ℕ, ◌≡◌, ◌<◌, ◌≤◌, List, [], ◌++◌, length, take, Option, Result, None, Some, Ok, Err}

-- A sink that tells its bytes now told them before, and these came at the end since.
abbrev pub Appended : Option (List ℕ) → Option (List ℕ) → List ℕ → Type 0
Appended before None bytes = Unit {0}
Appended before (Some now) bytes = (was : List ℕ) × (before ≡ Some was) × (now ≡ was ++ bytes)

-- Of the piece a front was taken, and not the whole.
abbrev pub TookPart : Option (List ℕ) → Option (List ℕ) → List ℕ → Type 0
TookPart before now piece = (count : ℕ) × (count < length piece) × Appended before now (take count piece)

-- What one call took: at least one byte from the front, or after an error nothing.
abbrev pub Puts : {E : Type 0} → Option (List ℕ) → Option (List ℕ) → List ℕ → Result ℕ E → Type 0
Puts before now piece (Ok count) = (1 ≤ count) × (count ≤ length piece) × Appended before now (take count piece)
Puts before now piece (Err _) = Appended before now []
