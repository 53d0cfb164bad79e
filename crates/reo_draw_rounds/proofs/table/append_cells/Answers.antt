use Rattle.std.proofs.Common.{◌∙◌, ap, ◌++◌}
use Rattle.reo_draw_rounds.specs.Tables.{padded}
use Rattle.reo_trace.proofs.Rows.{spaced-more}
use Rattle.reo_draw_rounds.proofs.table.append_cells.Goals as goal

pub loop-place-preserved : goal.loop-place-preserved
loop-place-preserved c =
    spaced-more (padded c.args.row) c.args.columns.now c.loop-place.place c.index-columns-place.result c.args.text.now c.loop-place.text c.append_gap.new.text c.append_padded.new.text c.loop-place-test.true
    c.loop-place.invariant c.in_ok-append_gap.ensures
    (c.in_ok-append_padded.ensures ∙ ap (λ column. c.append_gap.new.text ++ padded c.args.row column) (c.as_slice.ensures ∙ c.index-columns-place.is))
