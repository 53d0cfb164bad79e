-- Slices, and what was copied into them.
use Rattle.std.proofs.Common.{◌≡◌, ℕ, ◌-◌, ◌≤◌, List, ◌++◌, length, take, drop, arith, length-drop}
use Rattle.std.proofs.lemmas.List.{take_all}
use Rattle.std.proofs.lemmas.Grind.{common_steps}

-- a slice from i on is what is left from i on
pub take_all-drop : (i : ℕ) (s : List ℕ) → take (length s - i) (drop i s) ≡ drop i s
take_all-drop i s = take_all _ _ (omega (arith, length-drop i s))

-- what was copied to the front, and the rest
pub copied_to_front : (s copied room : List ℕ) (count : ℕ) → copied ≡ take count s → count ≤ length s → s ≡ take count (copied ++ room) ++ drop count s
copied_to_front s copied room count e h = grind (arith, common_steps)
