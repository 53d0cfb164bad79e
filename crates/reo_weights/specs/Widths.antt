-- Parts where too many items can stand.
use Rattle.std.specs.Prelude.{ℕ, Bool}
use Rattle.reo_net_base.specs.Net.{Net}
use Rattle.reo_joint_values.specs.Many.{HasMany, IsJointIn}

-- More than 256 items can stand at some joint of a set of sides.
pub record IsWide (net : Net) (inside : ℕ → Bool) : Type 0 where
  pub joint : ℕ
  pub is_joint : IsJointIn net inside joint
  pub many : HasMany net joint
