use Rattle.reo_net_base.specs.Net.{net_of}
use Rattle.reo_mark_search.specs.Fitting.{AreMet}
use Rattle.reo_mark_search.proofs.walking.meets_all.Given as goal

-- Some mark meets one at each end of the sides so far.
abbrev pub invariant-loop-index : goal.invariant-loop-index
invariant-loop-index g l = AreMet (net_of g.P.Primitive.behaviour l.searched.circuit.now) l.searched.spots.now l.sides l.index l.sets
