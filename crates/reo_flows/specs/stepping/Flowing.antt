-- The joints that flow.
use Rattle.std.specs.Prelude.{ℕ, ◌<◌, ◌≡◌, List, length, slice_index, slice_index_or}
use Rattle.reo_net_base.specs.declared.mark.Mark.TheVariants.{F}
use Rattle.reo_net_base.specs.declared.joint.Joint.{Joint}
use Rattle.reo_net_base.specs.Net.{Net, mark_at}

-- The giver of a joint flows.
abbrev pub GiverFlows : Net → List ℕ → ℕ → Type 0
GiverFlows net rows j = (d : Joint) → mark_at net rows (slice_index_or net.joints j d).giver ≡ F

-- Exactly the joints that flow by some rows.
pub record AreFlowing (net : Net) (rows joints : List ℕ) : Type 0 where
  pub in_range : (m : ℕ) → m < length joints → slice_index joints m < length net.joints
  pub flow : (m : ℕ) → m < length joints → GiverFlows net rows (slice_index joints m)
  pub each : (j : ℕ) → j < length net.joints → GiverFlows net rows j
      → (m : ℕ) × (m < length joints) × (slice_index joints m ≡ j)
