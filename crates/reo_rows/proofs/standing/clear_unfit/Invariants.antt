use Rattle.reo_net_base.specs.Net.{net_of}
use Rattle.reo_rows.specs.Sets.{family_of}
use Rattle.reo_rows.proofs.Columns.{AreFitBelow}
use Rattle.reo_rows.proofs.standing.clear_unfit.Given as goal

abbrev pub invariant-loop-index : goal.invariant-loop-index
invariant-loop-index g l = AreFitBelow (net_of g.P.Primitive.behaviour l.basis.circuit.now) (family_of l.alive) l.side l.board.joints l.index l.fits
