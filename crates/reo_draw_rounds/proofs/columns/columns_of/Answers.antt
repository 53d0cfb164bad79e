use Rattle.std.proofs.Common.{◌∙◌, ◌++◌, ◌∷◌, [], ap, sym}
use Rattle.reo_draw_rounds.specs.Columns.{number_column, state_column, port_column}
use Rattle.reo_draw_rounds.proofs.Lists.{mapped_more}
use Rattle.reo_draw_rounds.proofs.columns.columns_of.Goals as goal

pub loop-number-preserved : goal.loop-number-preserved
loop-number-preserved c =
    let rounds = c.args.rounds.now in
    c.in_ok-push-3.ensures.ok ∙ (λ i. c.loop-number.invariant i ++ c.in_ok-port_column.ensures i ∷ [])
    ∙ ap (λ ys. number_column rounds ∷ state_column rounds ∷ ys) (sym (mapped_more (port_column rounds) c.args.ports.now c.loop-number.number c.index-ports-number.result c.loop-number-test.true c.index-ports-number.is))
