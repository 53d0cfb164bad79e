use Rattle.std.proofs.Common.{◌≡◌, map, take}
use Rattle.reo_expand.specs.base.Lifted.{lifted_declaration}
use Rattle.reo_expand.proofs.base.lifting.lift.Given as goal

abbrev pub invariant-loop-declaration : goal.invariant-loop-declaration
invariant-loop-declaration l = l.declarations ≡ map lifted_declaration (take l.declaration-index l.program.declarations)
