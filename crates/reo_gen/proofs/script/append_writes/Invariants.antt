use Rattle.std.proofs.Common.{◌≡◌, ◌++◌}
use Rattle.std.specs.List.{flat_map, range_with_len}
use Rattle.reo_gen.specs.Scripts.{write_text}
use Rattle.reo_gen.proofs.script.append_writes.Given as goal

abbrev pub invariant-loop-item : goal.invariant-loop-item
invariant-loop-item l = l.text ≡ l.initial.text ++ flat_map write_text (range_with_len 0 l.item)
