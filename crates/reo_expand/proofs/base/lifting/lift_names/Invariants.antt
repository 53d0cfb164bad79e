use Rattle.std.proofs.Common.{◌≡◌, map, take}
use Rattle.reo_expand.specs.base.Lifted.{lifted_ref}
use Rattle.reo_expand.proofs.base.lifting.lift_names.Given as goal

abbrev pub invariant-loop-name : goal.invariant-loop-name
invariant-loop-name l = l.refs ≡ map lifted_ref (take l.name-index l.names)
