-- Values of a joint by their flags.
use Rattle.std.specs.Prelude.{ℕ, Bool, false, List, filter, map, slice_index_or}
use Rattle.std.specs.List.{range_with_len}
use Rattle.reo_joint_values.specs.declared.value.JointValue.{JointValue}
use Rattle.reo_joint_values.specs.declared.value.JointValue.TheVariants.{Flow, RG, GR, GG, Jam}

-- Whether a value flows and its flag is set.
abbrev pub flow_set : List Bool → JointValue → Bool
flow_set flags (Flow n) = slice_index_or flags n false
flow_set flags RG = false
flow_set flags GR = false
flow_set flags GG = false
flow_set flags Jam = false

-- Of the first n flows those whose flags are set, in their order.
abbrev pub live_flows : List Bool → ℕ → List JointValue
live_flows flags n = filter (flow_set flags) (map Flow (range_with_len 0 n))
