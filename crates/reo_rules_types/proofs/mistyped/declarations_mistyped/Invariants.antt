-- The declarations so far are known, and no item in them is mistyped.
use Rattle.std.proofs.Common.{◌≡◌, [], take}
use Rattle.reo_rules.specs.Lists.{each_after}
use Rattle.reo_rules.specs.Mistyped.{mistyped_in}
use Rattle.reo_rules_types.specs.Scoped.{AreKnown}
use Rattle.reo_rules_types.specs.Stands.{Stands}
use Rattle.reo_rules_types.proofs.mistyped.declarations_mistyped.Given as goal

abbrev pub invariant-loop-declaration : goal.invariant-loop-declaration
invariant-loop-declaration l =
    AreKnown l.types l.known.declared × Stands (take l.declaration-index l.declarations) l.types l.known × (each_after mistyped_in [] (take l.declaration-index l.declarations) ≡ [])
