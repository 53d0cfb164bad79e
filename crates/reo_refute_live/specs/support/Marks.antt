-- The marks of the values of a family at the ends of a joint.
use Rattle.std.specs.Prelude.{ℕ, ◌≡◌, Bool, true, false}
use Rattle.reo_net_base.specs.declared.mark.Mark.{Mark}
use Rattle.reo_joint_values.specs.declared.value.JointValue.{JointValue}
use Rattle.reo_joint_values.specs.Values.{Family, giver_mark, taker_mark}

-- The mark that a value puts at the giver of its joint, or at the taker.
abbrev pub value_mark : Bool → JointValue → Mark
value_mark true v = giver_mark v
value_mark false v = taker_mark v

-- Some value puts this mark there.
pub record IsMarkOf (test : JointValue → Bool) (gives : Bool) (mark : Mark) : Type 0 where
  pub value : JointValue
  pub has : test value ≡ true
  pub marked : value_mark gives value ≡ mark

-- Some value of a family puts this mark at the giver of a joint, or at the taker.
abbrev pub HasMark : Family → ℕ → Bool → Mark → Type 0
HasMark family j gives mark = IsMarkOf (family j) gives mark
