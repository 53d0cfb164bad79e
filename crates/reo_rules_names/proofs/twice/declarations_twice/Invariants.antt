-- The types and the connectors so far were seen, and nothing stands twice in them.
use Rattle.std.proofs.Common.{◌≡◌, [], take}
use Rattle.reo_rules.specs.Lists.{each_after}
use Rattle.reo_rules.specs.Scopes.{type_names, connector_names}
use Rattle.reo_rules.specs.Twice.{twice_in}
use Rattle.reo_rules_names.proofs.twice.declarations_twice.Given as goal

abbrev pub invariant-loop-declaration : goal.invariant-loop-declaration
invariant-loop-declaration l =
    (l.types ≡ type_names (take l.declaration-index l.declarations)) × (l.connectors ≡ connector_names (take l.declaration-index l.declarations))
    × (each_after twice_in [] (take l.declaration-index l.declarations) ≡ [])
