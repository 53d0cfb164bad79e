use Rattle.std.proofs.Common.{refl, sym, ◌∙◌}
use Rattle.std.proofs.lemmas.Result.{err_from_is_err_and}
use Rattle.reo_trees.specs.Indexes.{ref_form}
use Rattle.reo_parser.proofs.Turns.{comma_turn}
use Rattle.reo_parser.proofs.items_two.Stopped.{comma-stops}
use Rattle.reo_parser.proofs.items_two.uses.arguments.Goals as goal

pub arguments-smaller : goal.arguments-smaller
arguments-smaller c =
    (comma_turn ref_form refl refl 0 c.arguments.arguments c.in_ok-next.next c.arguments.cursor c.expect.new.self c.node-in-arguments.new.cursor
    (sym c.arguments-test.ensures) c.in_ok-expect.ensures.read c.in_ok-next.ensures).0

pub arguments-preserved : goal.arguments-preserved
arguments-preserved c =
    rw c.in_ok-push-2.ensures.ok
    (sym (comma_turn ref_form refl refl 0 c.arguments.arguments c.in_ok-next.next c.arguments.cursor c.expect.new.self c.node-in-arguments.new.cursor
    (sym c.arguments-test.ensures) c.in_ok-expect.ensures.read c.in_ok-next.ensures).1 ∙ c.arguments.invariant)

pub returns-in_err-next : goal.returns-in_err-next
returns-in_err-next c =
    let p = err_from_is_err_and c.from_residual-in_err-next.result c.from_residual-in_err-next.ensures.1 in
    rw (p.1, p.2)
    (comma-stops ref_form c.args.cursor.now c.in_ok-first.first c.node.new.cursor c.arguments.arguments c.arguments.cursor c.expect.new.self c.node-in-arguments.new.cursor c.in_err-next.field-0.0
    (sym c.if-is_name.ensures) c.in_ok-first.ensures (c.arguments.invariant ∙ rw (c.in_ok-push.ensures.ok, c.new-arguments.ensures) refl) (sym c.arguments-test.ensures) c.in_ok-expect.ensures.read c.in_err-next.ensures)
