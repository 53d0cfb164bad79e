use Rattle.std.proofs.Common.{◌≡◌, length, take}
use Rattle.reo_net_base.specs.Net.{net_of}
use Rattle.reo_mark_search.specs.Places.{lead_places}
use Rattle.reo_mark_search.specs.Searched.{in_part}
use Rattle.reo_mark_search.specs.Walking.{GoesOn}
use Rattle.reo_mark_search.proofs.walking.lead_all.Given as goal

-- The walk went on along the sides so far.
abbrev pub invariant-loop-index : goal.invariant-loop-index
invariant-loop-index g l = record {
  one_each : length l.sets ≡ length l.initial.sets;
  goes_on : GoesOn (net_of g.P.Primitive.behaviour l.searched.circuit.now) (in_part l.searched) (lead_places (net_of g.P.Primitive.behaviour l.searched.circuit.now) l.searched.turn (take l.index l.sides)) l.initial.sets l.sets;
}
