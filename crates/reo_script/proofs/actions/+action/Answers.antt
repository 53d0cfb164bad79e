use Rattle.std.proofs.Common.{refl, sym, ◌∙◌, ap, subst, codes}
use Rattle.reo_grammar.specs.Tokens.Class.{other}
use Rattle.reo_grammar.specs.Grammar.{reads}
use Rattle.reo_grammar.specs.Grammar.Grammar.{rule}
use Rattle.reo_cursor.specs.Reading.{Gives}
use Rattle.reo_trees.specs.Forms.{listed}
use Rattle.reo_trees.specs.Rules.{circuit_rules}
use Rattle.reo_script.specs.scripts.Alike.{read_alike, reads_alike}
use Rattle.reo_script.specs.scripts.ScriptForms.{write_form, script_rules}
use Rattle.reo_script.specs.scripts.ScriptForms.ScriptRule.{action_rule}
use Rattle.reo_script.proofs.Turns.{one_turn}
use Rattle.reo_script.proofs.actions.+action.Goals as goal

-- src/actions.rt:131:5
pub list-actions-smaller : goal.list-actions-smaller
list-actions-smaller t c =
    (one_turn listed (other (codes "}")) (rule action_rule) refl refl c.args.room c.actions.actions c.in_ok-next.next c.actions.cursor c.action.new.cursor
    (sym c.actions-test.ensures) c.in_ok-next.ensures).0

-- src/actions.rt:131:5
pub list-actions-preserved : goal.list-actions-preserved
list-actions-preserved t c =
    rw c.in_ok-push.ensures.ok
    (sym (one_turn listed (other (codes "}")) (rule action_rule) refl refl c.args.room c.actions.actions c.in_ok-next.next c.actions.cursor c.action.new.cursor
    (sym c.actions-test.ensures) c.in_ok-next.ensures).1 ∙ c.actions.invariant)

-- src/actions.rt:99:1
pub some_action-returns-then-is : goal.some_action-returns-then-is
some_action-returns-then-is t c =
    let e = ap (λ f. f c.args.cursor.now) (read_alike (reads script_rules c.args.room) (reads circuit_rules c.args.room) (reads_alike c.args.room) write_form) in
    rw (sym c.if-is.ensures) (subst (Gives c.write.result c.write.new.cursor) (sym e) c.write.ensures)
