-- No name so far is missing.
use Rattle.std.proofs.Common.{◌≡◌, [], take}
use Rattle.std.specs.List.{flat_map}
use Rattle.reo_rules.specs.Unknown.{missing}
use Rattle.reo_rules_names.proofs.unknown.all_of.Given as goal

abbrev pub invariant-loop-name : goal.invariant-loop-name
invariant-loop-name l = flat_map (missing l.names l.line) (take l.name-index l.sought) ≡ []
