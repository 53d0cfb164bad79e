use Rattle.std.proofs.Common.{refl, sym, ◌∙◌, codes}
use Rattle.std.proofs.lemmas.Result.{err_from_is_err_and}
use Rattle.reo_grammar.specs.Tokens.Class.{other}
use Rattle.reo_grammar.specs.Grammar.Grammar.{rule}
use Rattle.reo_trees.specs.Forms.{listed}
use Rattle.reo_trees.specs.Forms.Rule.{looped_rule}
use Rattle.reo_parser.proofs.Turns.{one_turn}
use Rattle.reo_parser.proofs.items_two.Stopped.{looped-stops}
use Rattle.reo_parser.proofs.items_two.loops.+looped.Goals as goal

pub looped_items-items-smaller : goal.looped_items-items-smaller
looped_items-items-smaller t c =
    (one_turn listed (other (codes "}")) (rule looped_rule) refl refl c.args.room c.items.items c.in_ok-next.next c.items.cursor c.looped.new.cursor
    (sym c.items-test.ensures) c.in_ok-next.ensures).0

pub looped_items-items-preserved : goal.looped_items-items-preserved
looped_items-items-preserved t c =
    rw c.in_ok-push.ensures.ok
    (sym (one_turn listed (other (codes "}")) (rule looped_rule) refl refl c.args.room c.items.items c.in_ok-next.next c.items.cursor c.looped.new.cursor
    (sym c.items-test.ensures) c.in_ok-next.ensures).1 ∙ c.items.invariant)

pub looped-returns-in_err-form : goal.looped-returns-in_err-form
looped-returns-in_err-form t c =
    let p = err_from_is_err_and c.from_residual.result c.from_residual.ensures.1 in
    rw (p.1, p.2) (looped-stops c.args.room c.args.cursor.now c.some_looped.new.cursor c.in_err-form.field-0.0 c.if-room-eq0.false c.in_err-form.ensures)

pub some_looped-returns-then-is_named-3 : goal.some_looped-returns-then-is_named-3
some_looped-returns-then-is_named-3 t c =
    rw (sym c.if-is_plain.ensures, sym c.if-is.ensures, sym c.if-is-2.ensures, sym c.if-is-3.ensures, sym c.if-is-4.ensures, sym c.if-is-5.ensures, sym c.if-is_named.ensures, sym c.if-is_named-2.ensures, sym c.if-is_named-3.ensures) c.quota.ensures

pub some_looped-returns-else-is_named-3 : goal.some_looped-returns-else-is_named-3
some_looped-returns-else-is_named-3 t c =
    rw (sym c.if-is_plain.ensures, sym c.if-is.ensures, sym c.if-is-2.ensures, sym c.if-is-3.ensures, sym c.if-is-4.ensures, sym c.if-is-5.ensures, sym c.if-is_named.ensures, sym c.if-is_named-2.ensures, sym c.if-is_named-3.ensures) c.looping.ensures
