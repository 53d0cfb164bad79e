-- Ends at joints.
use Rattle.std.proofs.Common.{◌≡◌, ℕ, zero, suc, ◌<◌, Bool, true, false, List, [], ◌∷◌, length, get_or, refl, arith}
use Rattle.std.specs.List.{position_or_len}
use Rattle.std.proofs.lemmas.List.Sums.{passes_at_first}
use Rattle.reo_net_base.specs.declared.joint.Joint.{Joint}

further : (test : Joint → Bool) (j : Joint) (js : List Joint) (t : Bool) → test j ≡ t → position_or_len test js < length js → position_or_len test (j ∷ js) < length (j ∷ js)
further test j js true is rest = rw is (omega arith)
further test j js false is rest = rw is (omega (arith, rest))

-- Where some joint passes, the first that passes is a joint.
pub first_below : (test : Joint → Bool) (joints : List Joint) (k : ℕ) (d : Joint) → k < length joints → test (get_or joints k d) ≡ true → position_or_len test joints < length joints
first_below test [] k d h passes = absurd (omega (arith, h))
first_below test (j ∷ js) zero d h passes = rw passes (omega arith)
first_below test (j ∷ js) (suc k) d h passes = further test j js (test j) refl (first_below test js k d (omega (arith, h)) passes)

pub passes : (test : Joint → Bool) (joints : List Joint) (d : Joint) → position_or_len test joints < length joints → test (get_or joints (position_or_len test joints) d) ≡ true
passes test joints d below = passes_at_first test joints d below
