-- The names so far were seen, and none of them stands twice.
use Rattle.std.proofs.Common.{◌≡◌, [], take}
use Rattle.reo_rules.specs.Lists.{each_after}
use Rattle.reo_rules.specs.Twice.{twice_among}
use Rattle.reo_rules_names.proofs.twice.symbols_twice.Given as goal

abbrev pub invariant-loop-name : goal.invariant-loop-name
invariant-loop-name l = (l.seen ≡ take l.name-index l.names) × (each_after (λ before name. twice_among before l.line name) [] (take l.name-index l.names) ≡ [])
