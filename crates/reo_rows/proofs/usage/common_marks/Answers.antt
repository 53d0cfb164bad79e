use Rattle.std.proofs.Common.{◌≡◌, ◌↔◌, ◌∙◌, ◌+◌, ◌<◌, ℕ, List, Bool, true, subst, sym, arith}
use Rattle.std.proofs.lemmas.Bool.{both_ways}
use Rattle.reo_net_base.specs.declared.mark.Mark.{Mark}
use Rattle.reo_net_base.specs.declared.joint.End.{End}
use Rattle.reo_net_base.specs.Net.{Net, net_of, no_side}
use Rattle.reo_side_tables.specs.Marks.{groups_in, common_at_joint}
use Rattle.reo_side_tables.specs.declared.sets.Marks.{Marks}
use Rattle.reo_rows.specs.Groups.{live_in, IsNotedOf}
use Rattle.reo_side_tables.specs.Sets.{marks_has}
use Rattle.reo_rows.specs.Usage.{HasCommonRow, IsCommonMark}
use Rattle.reo_rows.proofs.Reading.{end_read, common_read}
use Rattle.reo_rows.proofs.Using.{noted_read, first_read, with_common, without_common}
use Rattle.reo_rows.proofs.usage.common_marks.Goals.{then-has_common_row, else-has_common_row}
use Rattle.reo_rows.proofs.usage.common_marks.Goals as goal

pub has_common_row-requires-clause-first : goal.has_common_row-requires-clause-first
has_common_row-requires-clause-first g c =
    let net : Net = net_of g.P.Primitive.behaviour c.args.basis.now.circuit.now in
    let lt : c.loop-group.group < groups_in net c.args.side = omega (arith, c.loop-group-test.true, c.groups-group-end.ensures no_side) in
    first_read net c.known.ensures.wired c.args.basis.now.items.now c.args.rows.now c.requires.tables c.args.side c.requires.side c.args.joint c.requires.joint c.requires.noted
    c.at-notes.result.now c.at-notes.ensures c.loop-group.group lt c.at.result.now c.at.ensures

pub common-requires-clause-end : goal.common-requires-clause-end
common-requires-clause-end g c = end_read (net_of g.P.Primitive.behaviour c.args.basis.now.circuit.now) c.known.ensures.wired c.args.side c.args.joint c.requires.joint c.end_at-end.result c.end_at-end.ensures

pub loop-group-preserved : goal.loop-group-preserved
loop-group-preserved g c =
    let net : Net = net_of g.P.Primitive.behaviour c.args.basis.now.circuit.now in
    let side : ℕ = c.args.side in
    let joint : ℕ = c.args.joint in
    let group : ℕ = c.loop-group.group in
    let live : List (List Bool) = c.args.rows.now.live in
    let lt : group < groups_in net side = omega (arith, c.loop-group-test.true, c.groups-group-end.ensures no_side) in
    let noted : IsNotedOf net side (live_in net live side group) c.at.result.now =
    noted_read net c.known.ensures.wired c.args.basis.now.items.now c.args.rows.now c.requires.tables side c.requires.side joint c.requires.joint c.requires.noted
    c.at-notes.result.now c.at-notes.ensures group lt c.at.result.now c.at.ensures in
    let told = subst (λ (e : End). (c.has_common_row.result ≡ true) ↔ HasCommonRow net (live_in net live side group) side e.end) c.end_at-end.ensures (c.has_common_row.ensures (live_in net live side group) noted) in
    elim c.if-has_common_row.branch [
      | then-has_common_row w ↦
          let says : w.common.result ≡ common_at_joint net side group joint = w.common.ensures no_side ∙ common_read net c.known.ensures.wired side joint c.requires.joint c.end_at-end.result c.end_at-end.ensures group in
          subst (λ (s : Marks). (m : Mark) → (marks_has s m ≡ true) ↔ IsCommonMark net live side joint (group + 1) m) (sym w.marks-is)
          (with_common net live side joint group c.loop-group.marks w.with-marks.result w.common.result c.loop-group.invariant w.with-marks.ensures says (told.0 w.if-has_common_row.true))
      | else-has_common_row w ↦
          subst (λ (s : Marks). (m : Mark) → (marks_has s m ≡ true) ↔ IsCommonMark net live side joint (group + 1) m) (sym w.marks-is)
          (without_common net live side joint group c.loop-group.marks c.loop-group.invariant (λ used. both_ways c.has_common_row.result w.if-has_common_row.false (told.1 used)))
    ]
