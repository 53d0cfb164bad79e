-- Homes rise with the numbers of the joints.
use Rattle.std.proofs.Common.{arith, ℕ, ◌+◌, ◌<◌, ◌≤◌, zero, suc, List, [], ◌∷◌, ◌++◌, length, get_or, replicate}
use Rattle.reo_flat.specs.Unfolding.{Placed}
use Rattle.reo_flat.specs.Ends.{incoming, outgoing}
use Rattle.reo_flat.specs.Joints.{joints_of, many}
use Rattle.reo_flat.specs.Flat.{homes_at}

-- No number of a list is less than one before it, and the first none less than a bound.
abbrev Rises : ℕ → List ℕ → Type 0
Rises i [] = Unit {0}
Rises i (h ∷ hs) = (i ≤ h) × Rises h hs

from_below : (i j : ℕ) (hs : List ℕ) → i ≤ j → Rises j hs → Rises i hs
from_below i j [] le r = tt
from_below i j (h ∷ hs) le r = ((omega (arith, r.0)), r.1)

behind_copies : (n i : ℕ) (hs : List ℕ) → Rises i hs → Rises i (replicate n i ++ hs)
behind_copies zero i hs r = r
behind_copies (suc n) i hs r = ((omega arith), behind_copies n i hs r)

least : (i : ℕ) (hs : List ℕ) → Rises i hs → (k : ℕ) → k < length hs → i ≤ get_or hs k 0
least i [] r k lt = absurd (omega arith)
least i (h ∷ hs) r zero lt = r.0
least i (h ∷ hs) r (suc k) lt =
    let above = least h hs r.1 k (omega arith) in
    omega (arith, r.0, above)

rising : (i : ℕ) (hs : List ℕ) → Rises i hs → (j k : ℕ) → j ≤ k → k < length hs → get_or hs j 0 ≤ get_or hs k 0
rising i [] r j k le lt = absurd (omega arith)
rising i (h ∷ hs) r zero zero le lt = omega arith
rising i (h ∷ hs) r zero (suc k) le lt = least h hs r.1 k (omega arith)
rising i (h ∷ hs) r (suc j) zero le lt = absurd (omega arith)
rising i (h ∷ hs) r (suc j) (suc k) le lt = rising h hs r.1 j k (omega arith) (omega arith)

rises : (placed : List Placed) (i at : ℕ) (ns : List (List ℕ)) → Rises i (homes_at placed i at ns)
rises placed i at [] = tt
rises placed i at (n ∷ ns) =
    behind_copies (length (joints_of (incoming placed n) (outgoing placed n) at)) i _
    (from_below i (suc i) _ (omega arith) (rises placed (suc i) (at + (many (incoming placed n) + many (outgoing placed n))) ns))

pub homes_rise : (placed : List Placed) (i at : ℕ) (ns : List (List ℕ)) (j k : ℕ) → j ≤ k → k < length (homes_at placed i at ns)
    → get_or (homes_at placed i at ns) j 0 ≤ get_or (homes_at placed i at ns) k 0
homes_rise placed i at ns = rising i (homes_at placed i at ns) (rises placed i at ns)
