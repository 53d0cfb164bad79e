use Rattle.std.proofs.Common.{◌≡◌, ◌∙◌, ◌+◌, ℕ, List, length, ap, sym, subst}
use Rattle.reo_net_base.specs.Net.{Net, net_of, no_side}
use Rattle.reo_joint_values.specs.Values.{Family}
use Rattle.reo_lanes.specs.Rows.{kept_rows}
use Rattle.reo_refute_base.specs.Live.{alone}
use Rattle.reo_refute_live.specs.declared.support.columns.Column.{Column}
use Rattle.reo_refute_live.specs.support.Families.{family_of}
use Rattle.reo_side_tables.specs.Sets.{marks_byte}
use Rattle.reo_refute_live.proofs.support.Keeping.{AreLeft, column_rows, left_more}
use Rattle.reo_refute_live.proofs.support.Reading.{column_is, column_same}
use Rattle.reo_refute_live.proofs.support.support.keep_fitting.Goals as goal

pub keep_rows-requires : goal.keep_rows-requires
keep_rows-requires g c =
    let net : Net = net_of g.P.Primitive.behaviour c.args.asked.now.circuit.now in
    let column : Column = c.index-columns-index.result in
    ap (λ (l : List ℕ). length l) c.as_slice.ensures
    ∙ column_rows net c.known.ensures.wired c.args.asked.now.side column (column_is net c.args.asked.now.side c.args.asked.now.columns.now c.requires.ready.columns_are c.loop-index.index column c.loop-index-test.true c.index-columns-index.is) no_side
    ∙ sym (c.requires.rows no_side) ∙ sym c.loop-index.invariant.one_each

pub loop-index-preserved : goal.loop-index-preserved
loop-index-preserved g c =
    let net : Net = net_of g.P.Primitive.behaviour c.args.asked.now.circuit.now in
    let family : Family = alone (family_of c.args.asked.now.live.now) c.args.asked.now.held c.args.asked.now.value in
    let column : Column = c.index-columns-index.result in
    let is = column_is net c.args.asked.now.side c.args.asked.now.columns.now c.requires.ready.columns_are c.loop-index.index column c.loop-index-test.true c.index-columns-index.is in
    let kept : c.keep_rows.new.live ≡ kept_rows column.marks (marks_byte c.marks_left-marks.result) c.loop-index.rows =
    c.keep_rows.ensures ∙ ap (λ (b : ℕ). kept_rows c.as_slice.result.now b c.loop-index.rows) c.byte.ensures ∙ ap (λ (l : List ℕ). kept_rows l (marks_byte c.marks_left-marks.result) c.loop-index.rows) c.as_slice.ensures in
    subst (AreLeft net family c.args.asked.now.columns.now (c.loop-index.index + 1) c.args.rows.now) (sym kept)
    (left_more net family c.args.asked.now.columns.now c.args.rows.now c.known.ensures.wired c.args.asked.now.side c.loop-index.index c.loop-index.rows column c.marks_left-marks.result c.requires.rows c.loop-index.invariant is
    (column_same c.args.asked.now.columns.now c.loop-index.index column c.loop-index-test.true c.index-columns-index.is) c.marks_left-marks.ensures)
