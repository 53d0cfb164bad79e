-- Places of a key.
use Rattle.std.proofs.Common.{ℕ, zero, suc, ◌<◌, List, [], ◌∷◌, length, get_or, arith}
use Rattle.reo_net_base.specs.First.{Position}
use Rattle.reo_net_laws.specs.Keys.{AreInRange}
use Rattle.reo_refute_base.specs.Places.{no_place}

-- A place of a list whose sides are in range is at a side in range.
pub place_in_range : (n : ℕ) (ps : List Position) (p : ℕ) → AreInRange n ps → p < length ps → (get_or ps p no_place).side < n
place_in_range n [] p are lt = absurd (omega (arith, lt))
place_in_range n (x ∷ ps) zero are lt = are.0
place_in_range n (x ∷ ps) (suc p) are lt = place_in_range n ps p are.1 (omega (arith, lt))
