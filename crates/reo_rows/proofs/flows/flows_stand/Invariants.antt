use Rattle.std.proofs.Common.{◌<◌, ◌≡◌, ℕ, get_or, None}
use Rattle.reo_net_base.specs.Net.{net_of}
use Rattle.reo_net_laws.specs.Ends.{from_in}
use Rattle.reo_joint_values.specs.Values.{joint_of}
use Rattle.reo_joint_values.specs.Works.{TakerHas, IsGivenIn}
use Rattle.reo_rows.specs.Flowing.{names_in, family_in}
use Rattle.reo_rows.proofs.flows.flows_stand.Given as goal

abbrev pub invariant-loop-index : goal.invariant-loop-index
invariant-loop-index g l = (m : ℕ) → m < l.index → TakerHas (net_of g.P.Primitive.behaviour l.flowing.basis.now.circuit.now) (names_in l.flowing) (family_in l.flowing) l.flowing.side l.flowing.row (get_or l.flowing.flow.now.taking m 0)

abbrev pub invariant-loop-index-2 : goal.invariant-loop-index-2
invariant-loop-index-2 g l = (m : ℕ) → m < l.index → from_in (net_of g.P.Primitive.behaviour l.flowing.basis.now.circuit.now) l.flowing.row (joint_of (net_of g.P.Primitive.behaviour l.flowing.basis.now.circuit.now) (get_or l.flowing.flow.now.giving m 0)).giver ≡ None
    → IsGivenIn (net_of g.P.Primitive.behaviour l.flowing.basis.now.circuit.now) (names_in l.flowing) (family_in l.flowing) l.flowing.row (get_or l.flowing.flow.now.giving m 0) None
