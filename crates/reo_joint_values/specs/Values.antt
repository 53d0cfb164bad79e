-- Values at joints.
use Rattle.std.specs.Prelude.{ℕ, ◌≡◌, ◌==◌, ◌⊎◌, Bool, true, false, Option, None, List, length, map, slice_index_or}
use Rattle.std.specs.List.{range_with_len}
use Rattle.reo_values.specs.declared.value.Value.{Value}
use Rattle.reo_net_base.specs.declared.mark.Mark.{Mark}
use Rattle.reo_net_base.specs.declared.mark.Mark.TheVariants.{F, G, R, J}
use Rattle.reo_net_base.specs.declared.joint.Joint.{Joint}
use Rattle.reo_net_base.specs.Net.{Net, end_of, side_at}
use Rattle.reo_joint_values.specs.declared.value.JointValue.{JointValue}
use Rattle.reo_joint_values.specs.declared.value.JointValue.TheVariants.{Flow, RG, GR, GG, Jam}

-- The mark that a value puts at the giver of its joint.
abbrev pub giver_mark : JointValue → Mark
giver_mark (Flow n) = F
giver_mark RG = R
giver_mark GR = G
giver_mark GG = G
giver_mark Jam = J

-- The mark that a value puts at the taker of its joint.
abbrev pub taker_mark : JointValue → Mark
taker_mark (Flow n) = F
taker_mark RG = G
taker_mark GR = R
taker_mark GG = G
taker_mark Jam = J

-- Whether two values are one.
abbrev pub value_eq : JointValue → JointValue → Bool
value_eq (Flow m) (Flow n) = m == n
value_eq RG RG = true
value_eq GR GR = true
value_eq GG GG = true
value_eq Jam Jam = true
value_eq v w = false

-- The items, by the joint and the number.
abbrev pub Names : Type 0
Names = ℕ → ℕ → Option Value

-- A value for each joint.
abbrev pub Choice : Type 0
Choice = ℕ → JointValue

-- A set of values for each joint, as a test.
abbrev pub Family : Type 0
Family = ℕ → JointValue → Bool

-- The item that flows with a value at a joint.
abbrev pub item_named : Names → ℕ → JointValue → Option Value
item_named names j (Flow n) = names j n
item_named names j RG = None
item_named names j GR = None
item_named names j GG = None
item_named names j Jam = None

-- The items of a choice, one optional item a joint.
abbrev pub items_of : Net → Names → Choice → List (Option Value)
items_of net names choice =
    map (λ j. item_named names j (choice j)) (range_with_len 0 (length net.joints))

-- What is read past the last joint.
abbrev pub no_joint : Joint
no_joint = record { giver = end_of 0 0; taker = end_of 0 0 }

-- The joint of a number.
abbrev pub joint_of : Net → ℕ → Joint
joint_of net j = slice_index_or net.joints j no_joint

-- The side that a joint comes from.
abbrev pub giver_side : Net → ℕ → ℕ
giver_side net j = side_at net (joint_of net j).giver

-- The side that a joint goes to.
abbrev pub taker_side : Net → ℕ → ℕ
taker_side net j = side_at net (joint_of net j).taker

-- A joint is at a side: it comes from there or goes there.
abbrev pub AtSide : Net → ℕ → ℕ → Type 0
AtSide net j side = (giver_side net j ≡ side) ⊎ (taker_side net j ≡ side)
