use Rattle.std.proofs.Common.{◌≡◌, map}
use Rattle.std.specs.List.{range_with_len}
use Rattle.reo_net_base.specs.Net.{net_of}
use Rattle.reo_trace.specs.Entries.{entry_at}
use Rattle.reo_trace.proofs.entries.entries_of.Given as goal

abbrev pub invariant-loop-index : goal.invariant-loop-index
invariant-loop-index g l = l.entries ≡ map (entry_at (net_of g.P.Primitive.behaviour l.circuit) l.rows) (range_with_len 0 l.index)
