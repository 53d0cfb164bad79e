use Rattle.std.proofs.Common.{ℕ, ◌<◌, get_or}
use Rattle.reo_net_base.specs.declared.joint.Joint.{Joint}
use Rattle.reo_net_base.specs.Net.{net_of}
use Rattle.reo_net_base.specs.Colouring.{JointMatches}
use Rattle.reo_net.specs.plain.Chosen.{IsBetween}
use Rattle.reo_net.proofs.plain.clash.clashes.Given as goal

-- Each joint so far matches, where both of its sides are chosen.
abbrev pub invariant-loop-index : goal.invariant-loop-index
invariant-loop-index g l = (j : ℕ) (d : Joint) → j < l.index → IsBetween (net_of g.P.Primitive.behaviour l.circuit) l.chosen (get_or l.circuit.joints j d)
    → JointMatches (net_of g.P.Primitive.behaviour l.circuit) l.rows (get_or l.circuit.joints j d)
