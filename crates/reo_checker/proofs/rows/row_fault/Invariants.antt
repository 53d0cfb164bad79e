use Rattle.std.proofs.Common.{ℕ, ◌<◌, get_or}
use Rattle.reo_net_base.specs.Net.{Side, all_sides, row_count, net_of}
use Rattle.reo_checker.proofs.rows.row_fault.Given as goal

abbrev pub invariant-loop-side : goal.invariant-loop-side
invariant-loop-side g l = (k : ℕ) (e : Side) → k < l.side → get_or l.rows k 0 < row_count (get_or (all_sides (net_of g.P.Primitive.behaviour l.circuit).primitives) k e)
