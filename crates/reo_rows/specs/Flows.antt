-- What a row gives for what it takes in.
use Rattle.std.specs.Prelude.{ℕ, ◌<◌, ◌≡◌, Option, length}
use Rattle.reo_values.specs.declared.value.Value.{Value}
use Rattle.reo_net_base.specs.Net.{Net}
use Rattle.reo_joint_values.specs.Values.{Names, Family, giver_side}
use Rattle.reo_joint_values.specs.Works.{Follows, IsGivenIn}

-- What a row gives for what it takes in at a joint may stand where it is given.
abbrev pub IsPassedOn : Net → Names → Family → ℕ → ℕ → ℕ → Option Value → Type 0
IsPassedOn net names family side row j taken = (k : ℕ) → k < length net.joints → giver_side net k ≡ side → Follows net row k j
    → IsGivenIn net names family row k taken
