use Rattle.std.proofs.Common.{refl}
use Rattle.reo_draw_replay.proofs.DrawnLemmas.{drawn_more}
use Rattle.reo_draw_replay.proofs.drawing.see_round.Goals as goal

pub draw_if-requires : goal.draw_if-requires
draw_if-requires c = c.requires.suits.colouring.rows_fit.in_tables

pub returns : goal.returns
returns c = λ first start lines behind number has.
    drawn_more first c.args.drawing.now _ start lines c.args.line.now c.args.circuit.now c.args.plan.now behind number c.requires _ refl (λ i. record c.args.drawing.now { picture = c.in_ok-draw_if.ensures i }) has
