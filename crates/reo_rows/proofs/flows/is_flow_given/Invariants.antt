use Rattle.std.proofs.Common.{◌≡◌, ◌<◌, ◌≤◌, ℕ, true, option_copied}
use Rattle.reo_net_base.specs.Net.{net_of}
use Rattle.reo_joint_values.specs.Works.{IsGivenAs}
use Rattle.reo_rows.specs.RowFlags.{flag}
use Rattle.reo_rows.specs.Sets.{value_of}
use Rattle.reo_rows.specs.Flowing.{names_in}
use Rattle.reo_rows.proofs.flows.is_flow_given.Given as goal

abbrev pub invariant-loop-code : goal.invariant-loop-code
invariant-loop-code g l = (c : ℕ) → 4 ≤ c → c < l.code → flag l.flowing.alive.now l.joint c ≡ true
    → IsGivenAs (net_of g.P.Primitive.behaviour l.flowing.basis.now.circuit.now) (names_in l.flowing) l.flowing.row l.joint (option_copied l.taken) (value_of c) → ⊥
