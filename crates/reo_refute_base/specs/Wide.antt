-- Circuits with too many items at a joint.
use Rattle.std.specs.Prelude.{ℕ, ◌<◌, length}
use Rattle.reo_net_base.specs.Net.{Net}
use Rattle.reo_joint_values.specs.Many.{HasMany}

-- At some joint more than 256 items can stand.
abbrev pub IsWide : Net → Type 0
IsWide net = (j : ℕ) × (j < length net.joints) × HasMany net j
