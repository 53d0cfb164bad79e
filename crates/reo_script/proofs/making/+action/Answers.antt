use Rattle.std.proofs.Common.{◌∙◌, sym, ap, map}
use Rattle.reo_script.specs.declared.scripts.action.Action.TheVariants as actions
use Rattle.reo_script.specs.scripts.ScriptRules.{scripted}
use Rattle.reo_script.proofs.Bodies.{scripted_repeat}
use Rattle.reo_script.proofs.making.+action.Goals as goal

-- src/making.rt:50:1
pub action-returns-in_ok-actions-in-Repeat : goal.action-returns-in_ok-actions-in-Repeat
action-returns-in_ok-actions-in-Repeat t c =
    let ports = c.args.ports.now in
    ap (actions.Repeat c.in-Repeat.times) (c.in_ok-actions-in-Repeat.ensures ∙ ap (map (scripted ports)) c.as_slice.ensures)
    ∙ sym (ap (scripted ports) c.in-Repeat.is ∙ scripted_repeat ports c.in-Repeat.times c.in-Repeat.body)
