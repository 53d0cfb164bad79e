use Rattle.std.proofs.Common.{◌≡◌, ◌++◌, map, take}
use Rattle.std.specs.List.{flat_map}
use Rattle.reo_script.specs.scripts.ScriptRules.{namings}
use Rattle.reo_script.specs.Places.{naming_of}
use Rattle.reo_script.proofs.places.+note.Given as goal

abbrev pub invariant-note_all-loop-action : goal.invariant-note_all-loop-action
invariant-note_all-loop-action l = map naming_of l.places ≡ map naming_of l.initial.places ++ flat_map namings (take l.action-index l.actions)
