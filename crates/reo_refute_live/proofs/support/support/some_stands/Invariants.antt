use Rattle.std.proofs.Common.{◌≢◌, ◌<◌, ℕ, get_or}
use Rattle.reo_net_base.specs.Net.{net_of}
use Rattle.reo_refute_base.specs.Items.{numbered}
use Rattle.reo_refute_base.specs.Live.{alone}
use Rattle.reo_refute_live.specs.support.Families.{family_of}
use Rattle.reo_refute_live.specs.support.Flows.{FlowsStand}
use Rattle.reo_refute_live.proofs.support.support.some_stands.Given as goal

-- None of the rows so far stands.
abbrev pub invariant-loop-row : goal.invariant-loop-row
invariant-loop-row g l = (k : ℕ) → k < l.row → get_or l.rows k 0 ≢ 0
    → FlowsStand (net_of g.P.Primitive.behaviour l.asked.circuit.now) (numbered l.asked.lists.now) (alone (family_of l.asked.live.now) l.asked.held l.asked.value) l.asked.side k l.asked.columns.now → ⊥
