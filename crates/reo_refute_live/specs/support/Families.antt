-- Live values as tables, one entry for each joint.
use Rattle.std.specs.Prelude.{ℕ, ◌≡◌, Bool, true, false, List, [], length, slice_index_or}
use Rattle.reo_joint_values.specs.declared.value.JointValue.{JointValue}
use Rattle.reo_joint_values.specs.declared.value.JointValue.TheVariants.{Flow, RG, GR, GG, Jam}
use Rattle.reo_joint_values.specs.Values.{Family}
use Rattle.reo_refute_base.specs.Items.{Lists, items_at}
use Rattle.reo_refute_live.specs.declared.support.live.LiveAt.{LiveAt}

-- What is live past the last joint.
abbrev pub none_gone : LiveAt
none_gone = record { flows = []; rg = true; gr = true; gg = true; jam = true }

-- Whether a value is live, by the entry of its joint.
abbrev pub has : LiveAt → JointValue → Bool
has live (Flow n) = slice_index_or live.flows n false
has live RG = live.rg
has live GR = live.gr
has live GG = live.gg
has live Jam = live.jam

-- What a table tells to be live.
abbrev pub family_of : List LiveAt → Family
family_of live j v = has (slice_index_or live j none_gone) v

-- A table for these item lists: an entry for each joint, with a flag for each of its items.
pub record AreLive (lists : Lists) (live : List LiveAt) : Type 0 where
  pub one_each : length live ≡ length lists
  pub flags : (j : ℕ) → length (slice_index_or live j none_gone).flows ≡ length (items_at lists j)
