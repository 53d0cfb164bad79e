use Rattle.std.proofs.Common.{◌∙◌, sym, ap, inr, Some, cond, [], ◌∷◌}
use Rattle.reo_rules.specs.Lists.{first_of}
use Rattle.reo_script.specs.declared.scripts.fault.ScriptFault.TheVariants as faults
use Rattle.reo_script.specs.scripts.ScriptRules.{no_port}
use Rattle.reo_script.specs.Places.{naming_of}
use Rattle.reo_script.proofs.Breaks.{pass_first}
use Rattle.reo_script.proofs.judging.judge_names.Goals as goal

pub returns-then-is_missing : goal.returns-then-is_missing
returns-then-is_missing c =
    inr (pass_first naming_of (no_port c.args.ports.now) c.args.places.now c.loop-place.place-index c.place-item.result _ c.loop-place-test.true c.place-item.is c.loop-place.invariant
    (ap (λ b. first_of (cond b (faults.NoPort c.place-item.result.line c.place-item.result.port.now ∷ []) [])) (sym c.if-is_missing.ensures) ∙ ap (λ n. Some (faults.NoPort c.place-item.result.line n)) (sym c.in_ok-copy.ensures)))
