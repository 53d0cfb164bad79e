use Rattle.std.proofs.Common.{◌≡◌, ◌↔◌, true, ◌+◌, ◌<◌, ℕ, List, length, arith, subst, sym, ap, ◌∙◌}
use Rattle.reo_net_base.specs.Net.{Net, net_of, no_side}
use Rattle.reo_lanes.specs.Rows.{kept_rows}
use Rattle.reo_joint_values.specs.Values.{Family}
use Rattle.reo_rows.specs.Sets.{family_of}
use Rattle.reo_rows.specs.Stands.{HasMark}
use Rattle.reo_side_tables.specs.Sets.{marks_has}
use Rattle.reo_rows.proofs.Columns.{AreFitBelow, fit_more, column_cut, cut_length, cut_cell}
use Rattle.reo_rows.proofs.Reading.{board_is, read}
use Rattle.reo_rows.proofs.standing.clear_unfit.Goals as goal

pub loop-index-preserved : goal.loop-index-preserved
loop-index-preserved g c =
    let net : Net = net_of g.P.Primitive.behaviour c.args.basis.now.circuit.now in
    let family : Family = family_of c.args.alive.now in
    let side : ℕ = c.args.side in
    let joints : List ℕ = c.at-board.result.now.joints in
    let columns : List ℕ = c.at-board.result.now.columns in
    let n : ℕ = c.loop-index.index in
    let board = board_is net c.args.basis.now.boards.now c.requires.ready.boards_are side c.requires.side c.at-board.result.now c.at-board.ensures in
    let lt : n < length joints = omega arith in
    let j = read net side c.at-board.result.now board n c.at-joint.result.now lt c.at-joint.ensures in
    let groups = c.groups-groups.ensures no_side in
    let cut : List ℕ = column_cut net side joints columns board.columns n lt c.groups-groups.result c.as_slice.result.now in
    subst (λ (l : List ℕ). AreFitBelow net family side joints (n + 1) l) (sym (c.keep_rows.ensures ∙ ap (λ (b : ℕ). kept_rows cut b c.loop-index.fits) c.byte.ensures))
    (fit_more net family side joints n c.loop-index.fits cut c.marks_left-marks.result c.loop-index.invariant
    (cut_length net side joints columns board.columns n lt c.groups-groups.result c.as_slice.result.now groups c.as_slice.ensures)
    (cut_cell net side joints columns board.columns n lt c.groups-groups.result c.as_slice.result.now groups c.as_slice.ensures)
    (λ m. subst (λ (k : ℕ). (marks_has c.marks_left-marks.result m ≡ true) ↔ HasMark net family side k m) j.is (c.marks_left-marks.ensures m)))
