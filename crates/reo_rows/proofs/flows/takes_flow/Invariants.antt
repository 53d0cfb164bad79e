use Rattle.std.proofs.Common.{◌≡◌, ◌<◌, ◌≤◌, ◌-◌, ℕ, true}
use Rattle.reo_net_base.specs.Net.{net_of}
use Rattle.reo_joint_values.specs.declared.value.JointValue.TheVariants.{Flow}
use Rattle.reo_joint_values.specs.Works.{TakerWorks}
use Rattle.reo_rows.specs.RowFlags.{flag}
use Rattle.reo_rows.specs.Flowing.{names_in, family_in}
use Rattle.reo_rows.proofs.flows.takes_flow.Given as goal

abbrev pub invariant-loop-code : goal.invariant-loop-code
invariant-loop-code g l = (c : ℕ) → 4 ≤ c → c < l.code → flag l.flowing.alive.now l.joint c ≡ true
    → TakerWorks (net_of g.P.Primitive.behaviour l.flowing.basis.now.circuit.now) (names_in l.flowing) (family_in l.flowing) l.flowing.side l.flowing.row l.joint (Flow (c - 4)) → ⊥
