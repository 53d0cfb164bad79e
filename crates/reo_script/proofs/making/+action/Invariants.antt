use Rattle.std.proofs.Common.{◌≡◌, map, take}
use Rattle.reo_script.specs.scripts.ScriptRules.{scripted}
use Rattle.reo_script.proofs.making.+action.Given as goal

abbrev pub invariant-actions-loop-form : goal.invariant-actions-loop-form
invariant-actions-loop-form l = l.made ≡ map (scripted l.ports) (take l.form-index l.forms)
