use Rattle.std.proofs.Common.{◌≡◌, [], map, take}
use Rattle.std.specs.List.{flat_map}
use Rattle.reo_script.specs.scripts.ScriptRules.{outside}
use Rattle.reo_script.specs.Places.{naming_of}
use Rattle.reo_script.proofs.judging.judge_items.Given as goal

abbrev pub invariant-loop-place : goal.invariant-loop-place
invariant-loop-place l = flat_map (outside l.ports) (map naming_of (take l.place-index l.places)) ≡ []
