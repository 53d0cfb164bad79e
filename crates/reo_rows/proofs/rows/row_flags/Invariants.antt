use Rattle.reo_net_base.specs.Net.{net_of}
use Rattle.reo_rows.specs.Beginning.{AreRowFlags}
use Rattle.reo_rows.proofs.rows.row_flags.Given as goal

abbrev pub invariant-loop-side : goal.invariant-loop-side
invariant-loop-side g l = AreRowFlags (net_of g.P.Primitive.behaviour l.circuit) l.side l.live
