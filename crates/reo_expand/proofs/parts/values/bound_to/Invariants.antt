use Rattle.std.proofs.Common.{◌≡◌, take}
use Rattle.reo_expand.specs.base.Indexed.{bound_to as value_bound}
use Rattle.reo_expand.proofs.parts.values.bound_to.Given as goal

abbrev pub invariant-loop-b : goal.invariant-loop-b
invariant-loop-b l = l.found ≡ value_bound (take l.b-index l.bound) l.name
