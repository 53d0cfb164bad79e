-- What holds at each joint of rows and items.
use Rattle.std.specs.Prelude.{ℕ, ◌<◌, List, Option, None, length, slice_index_or}
use Rattle.reo_values.specs.declared.value.Value.{Value}
use Rattle.reo_net_base.specs.declared.joint.Joint.{Joint}
use Rattle.reo_net_base.specs.Net.{Net}
use Rattle.reo_net_base.specs.Colouring.{JointMatches, ItemFits}

-- What stands at each joint fits there.
abbrev pub AllFit : Net → List ℕ → List (Option Value) → Type 0
AllFit net rows items = (j : ℕ) (d : Joint) → j < length net.joints → ItemFits net rows items (slice_index_or net.joints j d) (slice_index_or items j None)

-- Each joint matches.
abbrev pub AllMatch : Net → List ℕ → Type 0
AllMatch net rows = (j : ℕ) (d : Joint) → j < length net.joints → JointMatches net rows (slice_index_or net.joints j d)
