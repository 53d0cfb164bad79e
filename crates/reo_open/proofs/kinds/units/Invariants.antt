use Rattle.std.proofs.Common.{◌≡◌, replicate}
use Rattle.reo_values.specs.declared.value.Value.TheVariants.{Unit}
use Rattle.reo_open.proofs.kinds.units.Given as goal

abbrev pub invariant-loop-index : goal.invariant-loop-index
invariant-loop-index l = l.made ≡ replicate l._index Unit
