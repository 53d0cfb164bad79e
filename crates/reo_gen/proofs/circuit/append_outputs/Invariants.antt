use Rattle.std.proofs.Common.{◌≡◌, ◌++◌}
use Rattle.std.specs.List.{flat_map, range_with_len}
use Rattle.reo_gen.specs.Circuits.{output_text}
use Rattle.reo_gen.proofs.circuit.append_outputs.Given as goal

abbrev pub invariant-loop-number : goal.invariant-loop-number
invariant-loop-number l = l.text ≡ l.initial.text ++ flat_map output_text (range_with_len 0 l.number)
