use Rattle.std.proofs.Common.{◌≡◌, ◌++◌, length}
use Rattle.std.specs.List.{flat_map}
use Rattle.reo_values.specs.ItemText.{escape}
use Rattle.reo_values.proofs.reading.quoted_bytes.Given as goal

abbrev pub invariant-loop-made : goal.invariant-loop-made
invariant-loop-made l = l.initial.reader ≡ flat_map escape l.made ++ l.reader

abbrev pub decreases-loop-made : goal.decreases-loop-made
decreases-loop-made l = length l.reader
