-- Outputs and their statuses.
use Rattle.std.specs.Prelude.{ℕ, ◌≡◌, List}

-- Whole outputs with their statuses.
abbrev pub Outputs : Type 1
Outputs = List ℕ → ℕ → Type 0

-- One line with its status.
abbrev pub IsLine : List ℕ → ℕ → Outputs
IsLine line status bytes code = (bytes ≡ line) × (code ≡ status)
