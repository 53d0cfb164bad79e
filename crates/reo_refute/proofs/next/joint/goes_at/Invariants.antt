use Rattle.std.proofs.Common.{◌≡◌, ◌<◌, ◌≤◌, ℕ, true, get_or}
use Rattle.reo_net_base.specs.Net.{net_of}
use Rattle.reo_joint_values.specs.declared.value.JointValue.TheVariants.{Jam}
use Rattle.reo_refute_base.specs.Items.{numbered}
use Rattle.reo_refute_base.specs.Live.{values_of, HasSupport}
use Rattle.reo_refute_base.specs.Places.{IsAllowed}
use Rattle.reo_refute_live.specs.support.Families.{family_of}
use Rattle.reo_refute.proofs.next.joint.goes_at.Given as goal

-- The live values from the first place to the present one have support.
abbrev pub invariant-loop-place : goal.invariant-loop-place
invariant-loop-place g l = (k : ℕ) → l.from ≤ k → k < l.place
    → family_of l.live.table l.joint (get_or (values_of l.judged.lists.now l.joint) k Jam) ≡ true
    → HasSupport (net_of g.P.Primitive.behaviour l.judged.circuit.now) (numbered l.judged.lists.now) (IsAllowed (net_of g.P.Primitive.behaviour l.judged.circuit.now) l.judged.turn l.judged.given.now l.judged.number) (family_of l.live.table) l.side l.joint (get_or (values_of l.judged.lists.now l.joint) k Jam)
