use Rattle.std.proofs.Common.{◌≡◌, ◌++◌, take}
use Rattle.std.specs.Prelude.{map, filter}
use Rattle.reo_net_base.specs.Net.{net_of}
use Rattle.reo_net_laws.specs.Keys.{leads_at}
use Rattle.reo_walk.specs.declared.place.KeyPlace.TheVariants.{Class, Row}
use Rattle.reo_walk.proofs.places.places_of.Given as goal

abbrev pub invariant-loop-side : goal.invariant-loop-side
invariant-loop-side g l = l.places ≡ map Class (filter (leads_at (net_of g.P.Primitive.behaviour l.circuit)) (take l.side-index l.sides))

abbrev pub invariant-loop-side-2 : goal.invariant-loop-side-2
invariant-loop-side-2 g l = l.places ≡ map Class (filter (leads_at (net_of g.P.Primitive.behaviour l.circuit)) l.sides) ++ map Class (take l.side-index l.sides)

abbrev pub invariant-loop-side-3 : goal.invariant-loop-side-3
invariant-loop-side-3 g l = l.places ≡ map Class (filter (leads_at (net_of g.P.Primitive.behaviour l.circuit)) l.sides) ++ (map Class l.sides ++ map Row (take l.side-index l.sides))
