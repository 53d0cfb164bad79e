use Rattle.std.proofs.Common.{◌≡◌, ◌++◌, map}
use Rattle.std.specs.List.{range_with_len}
use Rattle.reo_net_circuit.specs.Layout.{side_owner_at}
use Rattle.reo_net_circuit.proofs.layout.add_owners.Given as goal

abbrev pub invariant-loop-side : goal.invariant-loop-side
invariant-loop-side l = l.owners ≡ l.fn.owners ++ map (side_owner_at l.primitive) (range_with_len 0 l.side)
