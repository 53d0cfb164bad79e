use Rattle.std.proofs.Common.{refl, sym, ◌∙◌}
use Rattle.reo_trees.specs.Forms.{listed}
use Rattle.reo_trees.specs.Programs.{declaration_words}
use Rattle.reo_trees.specs.ProgramsTwo.{declaration_two}
use Rattle.reo_parser.proofs.Turns.{one_turn}
use Rattle.reo_parser.proofs.two.programs.declarations.Goals as goal

pub declarations-smaller : goal.declarations-smaller
declarations-smaller c =
    (one_turn listed declaration_words declaration_two refl refl c.args.room c.declarations.declarations c.in_ok-next.next c.declarations.cursor c.declaration.new.cursor
    (sym c.declarations-test.ensures) c.in_ok-next.ensures).0

pub declarations-preserved : goal.declarations-preserved
declarations-preserved c =
    rw c.in_ok-push.ensures.ok
    (sym (one_turn listed declaration_words declaration_two refl refl c.args.room c.declarations.declarations c.in_ok-next.next c.declarations.cursor c.declaration.new.cursor
    (sym c.declarations-test.ensures) c.in_ok-next.ensures).1 ∙ c.declarations.invariant)
