use Rattle.std.proofs.Common.{◌<◌, ℕ}
use Rattle.reo_net_base.specs.Net.{net_of}
use Rattle.reo_joint_values.specs.Works.{TakerWorks}
use Rattle.reo_joint_values.specs.declared.value.JointValue.TheVariants.{Flow}
use Rattle.reo_refute_base.specs.Items.{numbered}
use Rattle.reo_refute_base.specs.Live.{alone}
use Rattle.reo_refute_live.specs.support.Families.{family_of}
use Rattle.reo_refute_live.proofs.support.flows.takes_some.Given as goal

-- None of the items so far may be taken in.
abbrev pub invariant-loop-number : goal.invariant-loop-number
invariant-loop-number g l = (n : ℕ) → n < l.number
    → TakerWorks (net_of g.P.Primitive.behaviour l.asked.circuit.now) (numbered l.asked.lists.now) (alone (family_of l.asked.live.now) l.asked.held l.asked.value) l.asked.side l.row l.joint (Flow n) → ⊥
