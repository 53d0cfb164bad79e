use Rattle.std.proofs.Common.{◌≡◌, true, take}
use Rattle.std.specs.List.{list_all}
use Rattle.reo_net_base.specs.Net.{net_of}
use Rattle.reo_trace.specs.Entries.{is_still}
use Rattle.reo_trace.proofs.entries.is_idle.Given as goal

abbrev pub invariant-loop-index : goal.invariant-loop-index
invariant-loop-index g l = list_all (is_still (net_of g.P.Primitive.behaviour l.circuit) l.rows) (take l.index l.circuit.joints) ≡ true
