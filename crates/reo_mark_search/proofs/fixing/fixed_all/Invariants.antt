use Rattle.reo_net_base.specs.Net.{net_of}
use Rattle.reo_mark_search.specs.MarkFinding.{AreRowsElsewhere}
use Rattle.reo_mark_search.specs.Searched.{in_part, part_sides}
use Rattle.reo_mark_search.specs.Walking.{AreFixed}
use Rattle.reo_mark_search.proofs.fixing.fixed_all.Given as goal

-- One row is left at each of the sides so far.
abbrev pub invariant-loop-index : goal.invariant-loop-index
invariant-loop-index g l = record {
  fixed : AreFixed (net_of g.P.Primitive.behaviour l.searched.circuit.now) (in_part l.searched) l.searched.spots.now (part_sides l.searched) l.index l.sets l.rows;
  elsewhere : AreRowsElsewhere (in_part l.searched) l.initial.rows l.rows;
}
