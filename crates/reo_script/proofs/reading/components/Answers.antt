use Rattle.std.proofs.Common.{refl, sym, ◌∙◌, codes}
use Rattle.reo_grammar.specs.Tokens.Class.{fixed}
use Rattle.reo_trees.specs.Forms.{listed}
use Rattle.reo_script.specs.scripts.ScriptForms.{component_form}
use Rattle.reo_script.proofs.Turns.{one_turn}
use Rattle.reo_script.proofs.reading.components.Goals as goal

pub components-smaller : goal.components-smaller
components-smaller c =
    (one_turn listed (fixed (codes "component")) component_form refl refl c.args.room c.components.components c.in_ok-next.next c.components.cursor c.component.new.cursor
    (sym c.components-test.ensures) c.in_ok-next.ensures).0

pub components-preserved : goal.components-preserved
components-preserved c =
    rw c.in_ok-push.ensures.ok
    (sym (one_turn listed (fixed (codes "component")) component_form refl refl c.args.room c.components.components c.in_ok-next.next c.components.cursor c.component.new.cursor
    (sym c.components-test.ensures) c.in_ok-next.ensures).1 ∙ c.components.invariant)
