use Rattle.std.proofs.Common.{◌≡◌, [], length}
use Rattle.reo_trees.specs.Forms.{listed}
use Rattle.reo_trees.specs.Programs.{declaration_words}
use Rattle.reo_trees.specs.ProgramsTwo.{declaration_two}
use Rattle.reo_parser.proofs.Turns.{goes_on}
use Rattle.reo_parser.proofs.two.programs.declarations.Given as goal

abbrev pub invariant-declarations : goal.invariant-declarations
invariant-declarations l = goes_on listed declaration_words declaration_two l.room l.declarations l.cursor ≡ goes_on listed declaration_words declaration_two l.room [] l.initial.cursor

abbrev pub decreases-declarations : goal.decreases-declarations
decreases-declarations l = length l.cursor
