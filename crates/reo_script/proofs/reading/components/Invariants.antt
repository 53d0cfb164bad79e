use Rattle.std.proofs.Common.{◌≡◌, [], length, codes}
use Rattle.reo_grammar.specs.Tokens.Class.{fixed}
use Rattle.reo_trees.specs.Forms.{listed}
use Rattle.reo_script.specs.scripts.ScriptForms.{component_form}
use Rattle.reo_script.proofs.Turns.{goes_on}
use Rattle.reo_script.proofs.reading.components.Given as goal

abbrev pub invariant-components : goal.invariant-components
invariant-components l = goes_on listed (fixed (codes "component")) component_form l.room l.components l.cursor ≡ goes_on listed (fixed (codes "component")) component_form l.room [] l.initial.cursor

abbrev pub decreases-components : goal.decreases-components
decreases-components l = length l.cursor
