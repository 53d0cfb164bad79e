use Rattle.std.proofs.Common.{◌≡◌, take}
use Rattle.reo_net_base.specs.Net.{net_of}
use Rattle.reo_net_laws.specs.JamRows.{jam_rows}
use Rattle.reo_net.proofs.plain.jam.last_rows.Given as goal

abbrev pub invariant-loop-side : goal.invariant-loop-side
invariant-loop-side g l = l.rows ≡ take l.side (jam_rows (net_of g.P.Primitive.behaviour l.circuit))
