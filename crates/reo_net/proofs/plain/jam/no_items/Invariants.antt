use Rattle.std.proofs.Common.{◌≡◌, take}
use Rattle.reo_net_base.specs.Net.{net_of}
use Rattle.reo_net_laws.specs.JamRows.{no_items}
use Rattle.reo_net.proofs.plain.jam.no_items.Given as goal

abbrev pub invariant-loop-index : goal.invariant-loop-index
invariant-loop-index g l = l.items ≡ take l.index (no_items (net_of g.P.Primitive.behaviour l.circuit))
