use Rattle.std.proofs.Common.{◌≡◌, ◌<◌, ℕ, true, get_or, Some}
use Rattle.reo_net_base.specs.Net.{net_of}
use Rattle.reo_joint_values.specs.Works.{Follows, IsGivenIn}
use Rattle.reo_refute_base.specs.Items.{numbered}
use Rattle.reo_refute_base.specs.Live.{alone}
use Rattle.reo_refute_live.specs.support.Columns.{no_column}
use Rattle.reo_refute_live.specs.support.Families.{family_of}
use Rattle.reo_refute_live.proofs.support.flows.passes_on.Given as goal

-- What follows by the columns so far may stand.
abbrev pub invariant-loop-index : goal.invariant-loop-index
invariant-loop-index g l = (m : ℕ) → m < l.index → (get_or l.asked.columns.now m no_column).gives ≡ true
    → Follows (net_of g.P.Primitive.behaviour l.asked.circuit.now) l.row (get_or l.asked.columns.now m no_column).joint l.joint
    → IsGivenIn (net_of g.P.Primitive.behaviour l.asked.circuit.now) (numbered l.asked.lists.now) (alone (family_of l.asked.live.now) l.asked.held l.asked.value) l.row (get_or l.asked.columns.now m no_column).joint (Some l.item)
