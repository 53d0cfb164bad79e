-- Rows that work, joint by joint.
use Rattle.std.specs.Prelude.{ℕ, ◌<◌, ◌≡◌, true, Option, Some, None, IsSome, length}
use Rattle.reo_values.specs.declared.value.Value.{Value}
use Rattle.reo_net_base.specs.declared.mark.Mark.TheVariants.{F}
use Rattle.reo_net_base.specs.declared.joint.End.{End}
use Rattle.reo_net_base.specs.Behaviour.{Behaviour}
use Rattle.reo_net_base.specs.Net.{Net, behaviour_at}
use Rattle.reo_net_laws.specs.Ends.{mark_in, from_in, IsRowOf}
use Rattle.reo_joint_values.specs.declared.value.JointValue.{JointValue}
use Rattle.reo_joint_values.specs.Values.{giver_mark, Names, Family, item_named, joint_of, giver_side, taker_side}
use Rattle.reo_joint_values.specs.Fitting.{given_for, TakesValue}

-- A row of the table of an end's side.
abbrev pub IsRowAt : Net → ℕ → End → Type 0
IsRowAt net row e =
    let b : Behaviour = behaviour_at net.primitives e.primitive in
    row < b.rows (b.side_of e.end)

-- What a row gives at the joint k, with flow, is decided by what it takes in at the joint j.
pub record Follows (net : Net) (row k j : ℕ) : Type 0 where
  pub flows : mark_in net row (joint_of net k).giver ≡ F
  pub primitive : (joint_of net j).taker.primitive ≡ (joint_of net k).giver.primitive
  pub from : from_in net row (joint_of net k).giver ≡ Some (joint_of net j).taker.end

-- What a row gives at a joint, with flow, is decided by what it takes in at some end.
pub record IsDependent (net : Net) (row k : ℕ) : Type 0 where
  pub flows : mark_in net row (joint_of net k).giver ≡ F
  pub from : IsSome (from_in net row (joint_of net k).giver)

-- A value at a joint is what a row of the giver's side gives there for what it takes.
pub record IsGivenAs (net : Net) (names : Names) (row k : ℕ) (taken : Option Value)
    (v : JointValue) : Type 0 where
  pub mark : giver_mark v ≡ mark_in net row (joint_of net k).giver
  pub item : giver_mark v ≡ F
      → given_for net row (joint_of net k).giver taken ≡ item_named names k v

-- What a row gives at a joint for what it takes is in the family.
pub record IsGivenIn (net : Net) (names : Names) (family : Family) (row k : ℕ)
    (taken : Option Value) : Type 0 where
  pub value : JointValue
  pub has : family k value ≡ true
  pub given : IsGivenAs net names row k taken value

-- A value of the family that a row takes in at a joint, with what it gives for it in the family.
pub record TakerWorks (net : Net) (names : Names) (family : Family) (side row j : ℕ)
    (v : JointValue) : Type 0 where
  pub has : family j v ≡ true
  pub takes : TakesValue net names row (joint_of net j).taker j v
  pub rest : (k : ℕ) → k < length net.joints → giver_side net k ≡ side → Follows net row k j
      → IsGivenIn net names family row k (item_named names j v)

-- There is a value that a row takes in at a joint.
pub record TakerHas (net : Net) (names : Names) (family : Family) (side row j : ℕ) : Type 0 where
  pub value : JointValue
  pub works : TakerWorks net names family side row j value

-- A row works at a joint, if the joint is at its side: where it takes in there is a value for it,
-- and where it gives by the state alone, what it gives is in the family.
pub record JointWorks (net : Net) (names : Names) (family : Family) (side row j : ℕ) : Type 0 where
  pub taker : taker_side net j ≡ side → TakerHas net names family side row j
  pub giver : giver_side net j ≡ side → (IsDependent net row j → ⊥)
      → IsGivenIn net names family row j None

-- A row works with values of a family: it works at each joint of its side.
pub record RowWorks (net : Net) (names : Names) (family : Family) (side row : ℕ) : Type 0 where
  pub in_table : IsRowOf net side row
  pub joints : (j : ℕ) → j < length net.joints → JointWorks net names family side row j

-- A value at a joint goes with a row that gives there: it is given by the state alone, or for some
-- value taken in where the row's item comes from.
pub record GiverUses (net : Net) (names : Names) (family : Family) (side row k : ℕ)
    (v : JointValue) : Type 0 where
  pub mark : giver_mark v ≡ mark_in net row (joint_of net k).giver
  pub alone : (IsDependent net row k → ⊥) → IsGivenAs net names row k None v
  pub after : (j : ℕ) → j < length net.joints → taker_side net j ≡ side → Follows net row k j
      → (t : JointValue) × TakerWorks net names family side row j t
      × IsGivenAs net names row k (item_named names j t) v

-- A value at a joint goes with a row.
pub record ValueWorks (net : Net) (names : Names) (family : Family) (side row j : ℕ)
    (v : JointValue) : Type 0 where
  pub taker : taker_side net j ≡ side → TakerWorks net names family side row j v
  pub giver : giver_side net j ≡ side → GiverUses net names family side row j v
