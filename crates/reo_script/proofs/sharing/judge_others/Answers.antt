use Rattle.std.proofs.Common.{◌∙◌, sym, ap, inr, Some, cond, [], ◌∷◌}
use Rattle.reo_rules.specs.Lists.{first_of, has_name}
use Rattle.reo_script.specs.declared.scripts.fault.ScriptFault.TheVariants as faults
use Rattle.reo_script.specs.scripts.ScriptRules.{shared_in}
use Rattle.reo_script.specs.Places.{naming_of}
use Rattle.reo_script.proofs.Breaks.{pass_first}
use Rattle.reo_script.proofs.sharing.judge_others.Goals as goal

pub returns-then-has : goal.returns-then-has
returns-then-has c =
    inr (pass_first naming_of (shared_in c.args.seen.now) c.args.places.now c.loop-place.place-index c.place-item.result _ c.loop-place-test.true c.place-item.is c.loop-place.invariant
    (ap (λ b. first_of (cond b (faults.Shared c.place-item.result.line c.place-item.result.port.now ∷ []) [])) (ap (has_name c.args.seen.now) (sym c.as_slice.ensures) ∙ sym c.if-has.ensures) ∙ ap (λ n. Some (faults.Shared c.place-item.result.line n)) (sym c.in_ok-copy.ensures)))
