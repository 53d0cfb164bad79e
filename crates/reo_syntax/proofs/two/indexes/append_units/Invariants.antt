use Rattle.std.proofs.Common.{◌≡◌, ◌++◌, take}
use Rattle.reo_syntax.specs.two.IndexText.{units_text}
use Rattle.reo_syntax.proofs.two.indexes.append_units.Given as goal

abbrev pub invariant-loop-place : goal.invariant-loop-place
invariant-loop-place l = l.out ≡ l.initial.out ++ units_text (take l.place l.units)
