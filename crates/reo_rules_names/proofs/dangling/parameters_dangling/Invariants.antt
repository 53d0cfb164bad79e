-- No parameter so far has a break.
use Rattle.std.proofs.Common.{◌≡◌, List, [], take}
use Rattle.std.specs.List.{flat_map}
use Rattle.reo_rules.specs.Touches.{Touch}
use Rattle.reo_rules_names.specs.EndsAtNames.{AreEnds}
use Rattle.reo_rules.specs.Dangling.{dangling_parameter}
use Rattle.reo_rules_names.proofs.dangling.parameters_dangling.Given as goal

abbrev pub invariant-loop-parameter : goal.invariant-loop-parameter
invariant-loop-parameter l =
    (touches : List Touch) → AreEnds touches l.ends → flat_map (dangling_parameter touches) (take l.parameter-index l.parameters) ≡ []
