use Rattle.reo_net_base.specs.Net.{net_of}
use Rattle.reo_walk.specs.Walking.{IsBest}
use Rattle.reo_walk.proofs.walking.least_row.Given as goal

abbrev pub invariant-loop-row : goal.invariant-loop-row
invariant-loop-row g l = IsBest (net_of g.P.Primitive.behaviour l.circuit) l.turn l.place l.live l.row l.best
