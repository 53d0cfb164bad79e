use Rattle.std.proofs.Common.{◌≡◌, ◌++◌, ◌-◌}
use Rattle.std.specs.List.{flat_map, range_with_len}
use Rattle.reo_gen.specs.Circuits.{link_line}
use Rattle.reo_gen.proofs.circuit.append_links.Given as goal

abbrev pub invariant-loop-number : goal.invariant-loop-number
invariant-loop-number l = l.text ≡ l.initial.text ++ flat_map link_line (range_with_len 1 (l.number - 1))
