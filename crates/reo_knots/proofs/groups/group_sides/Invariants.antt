use Rattle.reo_net_laws.specs.KnotGroups.{AreSidesBelow}
use Rattle.reo_knots.proofs.groups.group_sides.Given as goal

abbrev pub invariant-loop-side : goal.invariant-loop-side
invariant-loop-side l = AreSidesBelow l.numbers l.side l.groups.items l.count
