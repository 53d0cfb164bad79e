use Rattle.std.proofs.Common.{◌≡◌, map, take}
use Rattle.std.specs.List.{flat_map}
use Rattle.reo_script.specs.scripts.ScriptRules.{namings_in}
use Rattle.reo_script.specs.Places.{naming_of}
use Rattle.reo_script.proofs.places.places_of.Given as goal

abbrev pub invariant-loop-component : goal.invariant-loop-component
invariant-loop-component l = map naming_of l.places ≡ flat_map namings_in (take l.component-index l.components)
