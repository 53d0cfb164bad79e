use Rattle.reo_net_base.specs.Net.{net_of}
use Rattle.reo_side_tables.proofs.Cells.{AreCells}
use Rattle.reo_side_tables.proofs.columns.columns_of.Given as goal

abbrev pub invariant-loop-group : goal.invariant-loop-group
invariant-loop-group g l = AreCells (net_of g.P.Primitive.behaviour l.circuit) l.side l.joints l.index l.group l.columns

abbrev pub invariant-loop-index : goal.invariant-loop-index
invariant-loop-index g l = AreCells (net_of g.P.Primitive.behaviour l.circuit) l.side l.joints l.index 0 l.columns
