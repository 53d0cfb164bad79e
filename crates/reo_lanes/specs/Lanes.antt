-- What the lanes of two loads say of their pairs.
use Rattle.std.specs.Prelude.{ℕ, Bool, not, List}
use Rattle.std.specs.Simd.Lanes.{zip2, mask_l}
use Rattle.reo_lanes.specs.Joints.{bytes_match}

-- The pair does not match.
abbrev pub is_broken : ℕ → ℕ → Bool
is_broken left right = not (bytes_match left right)

-- The number whose bit at each place is set where the pair of that place does not match.
abbrev pub broken_mask : List ℕ → List ℕ → ℕ
broken_mask left right = mask_l (zip2 is_broken left right)
