use Rattle.std.proofs.Common.{◌≡◌, ◌++◌}
use Rattle.std.specs.List.{flat_map, range_with_len}
use Rattle.reo_gen.specs.Scripts.{taker_line}
use Rattle.reo_gen.proofs.script.append_takers.Given as goal

abbrev pub invariant-loop-number : goal.invariant-loop-number
invariant-loop-number l = l.text ≡ l.initial.text ++ flat_map taker_line (range_with_len 0 l.number)
