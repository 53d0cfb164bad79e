-- Items that rows determine, so far in an order of the joints.
use Rattle.std.specs.Prelude.{ℕ, ◌<◌, ◌≡◌, List, Option, None, slice_index_or}
use Rattle.reo_values.specs.declared.value.Value.{Value}
use Rattle.reo_net_base.specs.declared.joint.Joint.{Joint}
use Rattle.reo_net_base.specs.Net.{Net}
use Rattle.reo_net_base.specs.Colouring.{item_given}

-- The joints at the first places of an order have the items that the rows put there.
abbrev pub AreFilledBefore : Net → List ℕ → List ℕ → ℕ → List (Option Value) → Type 0
AreFilledBefore net rows order at items = (m : ℕ) (d : Joint) → m < at → slice_index_or items (slice_index_or order m 0) None ≡ item_given net rows items (slice_index_or net.joints (slice_index_or order m 0) d)
