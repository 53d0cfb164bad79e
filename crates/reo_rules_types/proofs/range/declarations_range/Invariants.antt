-- The types so far are declared, and the declarations so far keep their bounds.
use Rattle.std.proofs.Common.{◌≡◌, [], take}
use Rattle.reo_rules.specs.Lists.{each_after}
use Rattle.reo_rules.specs.Types.{types_of}
use Rattle.reo_rules.specs.Ranges.{range_in}
use Rattle.reo_rules_types.specs.Scoped.{typed, AreKnown}
use Rattle.reo_rules_types.proofs.range.declarations_range.Given as goal

abbrev pub invariant-loop-declaration : goal.invariant-loop-declaration
invariant-loop-declaration l =
    AreKnown l.types l.declared × (typed l.types l.declared ≡ types_of (take l.declaration-index l.declarations)) × (each_after range_in [] (take l.declaration-index l.declarations) ≡ [])
