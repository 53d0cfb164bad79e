use Rattle.std.proofs.Common.{◌≡◌, ◌<◌, ℕ, true, option_copied}
use Rattle.reo_net_base.specs.Net.{net_of}
use Rattle.reo_joint_values.specs.Values.{joint_of}
use Rattle.reo_joint_values.specs.Fitting.{given_for}
use Rattle.reo_joint_values.specs.declared.value.JointValue.TheVariants.{Flow}
use Rattle.reo_refute_base.specs.Items.{numbered}
use Rattle.reo_refute_base.specs.Live.{alone}
use Rattle.reo_refute_live.specs.support.Families.{family_of}
use Rattle.reo_refute_live.proofs.support.flows.gives_some.Given as goal

-- None of the items so far is given and may flow.
abbrev pub invariant-loop-number : goal.invariant-loop-number
invariant-loop-number g l = (n : ℕ) → n < l.number → alone (family_of l.asked.live.now) l.asked.held l.asked.value l.joint (Flow n) ≡ true
    → given_for (net_of g.P.Primitive.behaviour l.asked.circuit.now) l.row (joint_of (net_of g.P.Primitive.behaviour l.asked.circuit.now) l.joint).giver (option_copied l.taken) ≡ numbered l.asked.lists.now l.joint n → ⊥
