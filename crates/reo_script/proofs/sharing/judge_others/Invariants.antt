use Rattle.std.proofs.Common.{◌≡◌, [], map, take}
use Rattle.std.specs.List.{flat_map}
use Rattle.reo_script.specs.scripts.ScriptRules.{shared_in}
use Rattle.reo_script.specs.Places.{naming_of}
use Rattle.reo_script.proofs.sharing.judge_others.Given as goal

abbrev pub invariant-loop-place : goal.invariant-loop-place
invariant-loop-place l = flat_map (shared_in l.seen) (map naming_of (take l.place-index l.places)) ≡ []
