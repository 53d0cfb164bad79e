use Rattle.reo_net_base.specs.Net.{net_of}
use Rattle.reo_propagate.specs.Setting.{AreFresh}
use Rattle.reo_propagate.proofs.restarting.freshen_all.Given as goal

-- The sides so far begin anew.
abbrev pub invariant-loop-side : goal.invariant-loop-side
invariant-loop-side g l = AreFresh (net_of g.P.Primitive.behaviour l.circuit) l.sides l.side-index l.initial.state l.state
