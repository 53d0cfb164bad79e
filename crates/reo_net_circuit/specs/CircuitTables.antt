-- The joint at the mouth and the joint at the end 0 of each primitive.
use Rattle.std.specs.Prelude.{ℕ, ◌<◌, ◌≡◌, List, length, slice_index}
use Rattle.std.specs.List.{position_or_len}
use Rattle.reo_net_base.specs.Net.{Net, end_of, is_at}
use Rattle.reo_net_base.specs.Step.{mouth_of}

-- The joint at the mouth of each primitive, or the number of joints.
pub record AreMouths (net : Net) (mouths : List ℕ) : Type 0 where
  pub one_each : length mouths ≡ length net.primitives
  pub mouth : (i : ℕ) → i < length net.primitives → slice_index mouths i ≡ mouth_of net i

-- The joint at the end 0 of each primitive, or the number of joints.
pub record ArePortJoints (net : Net) (port_joints : List ℕ) : Type 0 where
  pub one_each : length port_joints ≡ length net.primitives
  pub joint : (i : ℕ) → i < length net.primitives → slice_index port_joints i ≡ position_or_len (is_at (end_of i 0)) net.joints
