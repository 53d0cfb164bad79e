use Rattle.std.proofs.Common.{sym, ap, inr, cond, [], ◌∷◌}
use Rattle.reo_rules.specs.Lists.{first_of}
use Rattle.reo_script.specs.declared.scripts.fault.ScriptFault.TheVariants as faults
use Rattle.reo_script.specs.scripts.ScriptRules.{outside}
use Rattle.reo_script.specs.Places.{naming_of}
use Rattle.reo_script.proofs.Breaks.{pass_first}
use Rattle.reo_script.proofs.judging.judge_items.Goals as goal

pub returns-then-is_outside-clause-judged : goal.returns-then-is_outside-clause-judged
returns-then-is_outside-clause-judged c =
    inr (pass_first naming_of (outside c.args.ports.now) c.args.places.now c.loop-place.place-index c.place-item.result _ c.loop-place-test.true c.place-item.is c.loop-place.invariant
    (ap (λ b. first_of (cond b (faults.ItemOutside c.place-item.result.line ∷ []) [])) (sym c.if-is_outside.ensures)))
