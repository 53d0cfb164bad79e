use Rattle.std.proofs.Common.{◌≡◌, take}
use Rattle.reo_net_base.specs.Net.{net_of}
use Rattle.reo_verify.specs.judging.Entries.{rows_of}
use Rattle.reo_verify.proofs.judging.rows.rows_said.Given as goal

abbrev pub invariant-loop-index : goal.invariant-loop-index
invariant-loop-index g l = l.rows ≡ rows_of (take l.index (net_of g.P.Primitive.behaviour l.circuit).primitives) (take l.index l.entries)
