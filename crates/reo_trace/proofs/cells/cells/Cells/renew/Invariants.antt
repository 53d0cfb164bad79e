use Rattle.std.proofs.Common.{slice_index}
use Rattle.reo_net_base.specs.Net.{net_of}
use Rattle.reo_trace.specs.cells.Cells.{AreCells, IsBrought, code_at}
use Rattle.reo_trace.proofs.cells.cells.Cells.renew.Given as goal

-- The cells of the first of these sides are brought, and their rows written.
abbrev pub invariant-loop-index : goal.invariant-loop-index
invariant-loop-index g l = record {
  cells : AreCells (net_of g.P.Primitive.behaviour l.circuit) l.self;
  so_far : IsBrought (code_at (net_of g.P.Primitive.behaviour l.circuit) l.rows) l.sides l.index l.initial.self.shown l.self.shown;
  written : IsBrought (slice_index l.rows) l.sides l.index l.initial.list l.list;
}
