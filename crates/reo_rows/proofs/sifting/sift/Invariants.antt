use Rattle.std.proofs.Common.{◌-◌}
use Rattle.reo_net_base.specs.Net.{net_of}
use Rattle.reo_rows.specs.Sets.{family_of, names_of}
use Rattle.reo_rows.specs.Sifting.{AreSiftedFrom}
use Rattle.reo_rows.proofs.sifting.sift.Given as goal

abbrev pub invariant-loop-index : goal.invariant-loop-index
invariant-loop-index g l = AreSiftedFrom (net_of g.P.Primitive.behaviour l.basis.circuit.now) l.basis.items.now (names_of l.basis.items.now) (family_of l.alive) l.side (l.count - l.index) l.fn.rows l.rows
