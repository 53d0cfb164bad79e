use Rattle.std.proofs.Common.{ℕ, ◌<◌}
use Rattle.reo_net_base.specs.Net.{net_of}
use Rattle.reo_runs.specs.verdicts.Said.{HasRows}
use Rattle.reo_verify.proofs.judging.rows.row_break.Given as goal

abbrev pub invariant-loop-index : goal.invariant-loop-index
invariant-loop-index g l = (i : ℕ) → i < l.index → HasRows (net_of g.P.Primitive.behaviour l.circuit) l.entries i
