use Rattle.std.proofs.Common.{◌≡◌, length, take}
use Rattle.reo_net_base.specs.Net.{net_of}
use Rattle.reo_mark_search.specs.Fitting.{ArePinned}
use Rattle.reo_mark_search.specs.MarkFinding.{AreRowsElsewhere}
use Rattle.reo_mark_search.specs.Places.{row_places}
use Rattle.reo_mark_search.specs.Searched.{in_part, part_sides}
use Rattle.reo_mark_search.specs.Walking.{GoesOn}
use Rattle.reo_mark_search.proofs.walking.row_all.Given as goal

-- The walk went on along the sides so far, which are pinned.
abbrev pub invariant-loop-index : goal.invariant-loop-index
invariant-loop-index g l = record {
  one_each : length l.sets ≡ length l.initial.sets;
  goes_on : GoesOn (net_of g.P.Primitive.behaviour l.searched.circuit.now) (in_part l.searched) (row_places (take l.index (part_sides l.searched))) l.initial.sets l.sets;
  pinned : ArePinned (net_of g.P.Primitive.behaviour l.searched.circuit.now) l.searched.spots.now (part_sides l.searched) l.index l.sets l.rows;
  elsewhere : AreRowsElsewhere (in_part l.searched) l.initial.rows l.rows;
}
