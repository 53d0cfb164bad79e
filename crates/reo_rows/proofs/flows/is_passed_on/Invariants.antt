use Rattle.std.proofs.Common.{◌<◌, ℕ, get_or, Some}
use Rattle.reo_net_base.specs.Net.{net_of}
use Rattle.reo_joint_values.specs.Works.{Follows, IsGivenIn}
use Rattle.reo_rows.specs.Flowing.{names_in, family_in}
use Rattle.reo_rows.proofs.flows.is_passed_on.Given as goal

abbrev pub invariant-loop-index : goal.invariant-loop-index
invariant-loop-index g l = (m : ℕ) → m < l.index → Follows (net_of g.P.Primitive.behaviour l.flowing.basis.now.circuit.now) l.flowing.row (get_or l.flowing.flow.now.giving m 0) l.joint
    → IsGivenIn (net_of g.P.Primitive.behaviour l.flowing.basis.now.circuit.now) (names_in l.flowing) (family_in l.flowing) l.flowing.row (get_or l.flowing.flow.now.giving m 0) (Some l.item)
