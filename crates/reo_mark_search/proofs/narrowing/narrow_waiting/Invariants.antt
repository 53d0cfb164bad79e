use Rattle.reo_net_base.specs.Net.{net_of}
use Rattle.reo_mark_search.specs.Fitting.{AreReduced}
use Rattle.reo_mark_search.specs.Searched.{in_part}
use Rattle.reo_mark_search.proofs.narrowing.narrow_waiting.Given as goal

-- No marks went that rows have which fit.
abbrev pub invariant-loop : goal.invariant-loop
invariant-loop g l = AreReduced (net_of g.P.Primitive.behaviour l.searched.circuit.now) (in_part l.searched) l.initial.sets l.sets
