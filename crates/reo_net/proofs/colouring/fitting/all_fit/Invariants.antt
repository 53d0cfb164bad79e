use Rattle.std.proofs.Common.{ℕ, ◌<◌, get_or, None}
use Rattle.reo_net_base.specs.declared.joint.Joint.{Joint}
use Rattle.reo_net_base.specs.Net.{net_of}
use Rattle.reo_net_base.specs.Colouring.{ItemFits}
use Rattle.reo_net.proofs.colouring.fitting.all_fit.Given as goal

abbrev pub invariant-loop-index : goal.invariant-loop-index
invariant-loop-index g l = (j : ℕ) (d : Joint) → j < l.index → ItemFits (net_of g.P.Primitive.behaviour l.circuit) l.rows l.items (get_or l.circuit.joints j d) (get_or l.items j None)
