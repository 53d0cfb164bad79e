use Rattle.std.proofs.Common.{◌≡◌, ◌++◌, ◌-◌}
use Rattle.std.specs.List.{flat_map, range_with_len}
use Rattle.reo_gen.specs.Circuits.{use_line}
use Rattle.reo_gen.proofs.circuit.append_uses.Given as goal

abbrev pub invariant-loop-number : goal.invariant-loop-number
invariant-loop-number l = l.text ≡ l.initial.text ++ flat_map (use_line l.stages) (range_with_len 1 (l.number - 1))
