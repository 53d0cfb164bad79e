use Rattle.std.proofs.Common.{◌≡◌, map, take}
use Rattle.reo_script.specs.scripts.ScriptRules.{component_for}
use Rattle.reo_script.proofs.making.components_for.Given as goal

abbrev pub invariant-loop-form : goal.invariant-loop-form
invariant-loop-form l = l.made ≡ map (component_for l.ports) (take l.form-index l.forms)
