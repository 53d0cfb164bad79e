use Rattle.std.proofs.Common.{◌≡◌, ◌+◌, ◌*◌, [], length, codes}
use Rattle.reo_grammar.specs.Tokens.Class.{other}
use Rattle.reo_grammar.specs.Grammar.Grammar.{rule}
use Rattle.reo_trees.specs.Forms.{listed}
use Rattle.reo_script.specs.scripts.ScriptForms.ScriptRule.{action_rule}
use Rattle.reo_script.proofs.Turns.{goes_on}
use Rattle.reo_script.proofs.actions.+action.Given as goal

abbrev pub decreases-action : goal.decreases-action
decreases-action l = 5 * l.room

abbrev pub decreases-list : goal.decreases-list
decreases-list l = 5 * l.room + 1

abbrev pub decreases-actions : goal.decreases-actions
decreases-actions l = 5 * l.room + 2

abbrev pub decreases-repeated : goal.decreases-repeated
decreases-repeated l = 5 * l.room + 3

abbrev pub decreases-some_action : goal.decreases-some_action
decreases-some_action l = 5 * l.room + 4

abbrev pub invariant-list-actions : goal.invariant-list-actions
invariant-list-actions l = goes_on listed (other (codes "}")) (rule action_rule) l.room l.actions l.cursor ≡ goes_on listed (other (codes "}")) (rule action_rule) l.room [] l.initial.cursor

abbrev pub decreases-list-actions : goal.decreases-list-actions
decreases-list-actions l = length l.cursor
