-- Bytes cut into lines.
use Rattle.std.specs.Prelude.{ℕ, ◌==◌, Bool, true, false, cond, List, [], ◌∷◌, ◌++◌}
use Rattle.reo_values.specs.Bytes.{line_feed}

-- Lines with these bytes before the first of them.
abbrev pub begun_by : List ℕ → List (List ℕ) → List (List ℕ)
begun_by bytes [] = []
begun_by bytes (line ∷ lines) = (bytes ++ line) ∷ lines

abbrev pub are_none : List (List ℕ) → Bool
are_none [] = true
are_none (line ∷ lines) = false

-- The lines that a line feed ends, each without it.
abbrev pub ended_lines : List ℕ → List (List ℕ)
ended_lines [] = []
ended_lines (b ∷ bs) =
    cond (b == line_feed) ([] ∷ ended_lines bs) (begun_by (b ∷ []) (ended_lines bs))

-- The bytes behind the last line feed.
abbrev pub open_line : List ℕ → List ℕ
open_line [] = []
open_line (b ∷ bs) =
    cond (b == line_feed) (open_line bs)
    (cond (are_none (ended_lines bs)) (b ∷ open_line bs) (open_line bs))
