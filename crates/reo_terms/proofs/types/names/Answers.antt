use Rattle.std.proofs.Common.{refl, sym, ◌∙◌}
use Rattle.reo_trees.specs.Forms.{name_form}
use Rattle.reo_terms.proofs.Turns.{comma_turn}
use Rattle.reo_terms.proofs.types.names.Goals as goal

pub names-smaller : goal.names-smaller
names-smaller c =
    (comma_turn name_form refl refl 0 c.names.names c.in_ok-next.next c.names.cursor c.expect.new.self c.name-in-names.new.self
    (sym c.names-test.ensures) c.in_ok-expect.ensures.read c.in_ok-next.ensures.read).0

pub names-preserved : goal.names-preserved
names-preserved c =
    rw c.in_ok-push-2.ensures.ok
    (sym (comma_turn name_form refl refl 0 c.names.names c.in_ok-next.next c.names.cursor c.expect.new.self c.name-in-names.new.self
    (sym c.names-test.ensures) c.in_ok-expect.ensures.read c.in_ok-next.ensures.read).1 ∙ c.names.invariant)
