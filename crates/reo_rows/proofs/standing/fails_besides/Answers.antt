use Rattle.std.proofs.Common.{◌≢◌, ◌∙◌, ◌<◌, ℕ, List, length, get_or, Some, below_more, ap, subst, arith}
use Rattle.reo_net_base.specs.declared.joint.End.{End}
use Rattle.reo_net_base.specs.Net.{Net, net_of}
use Rattle.reo_joint_values.specs.Values.{Family}
use Rattle.reo_side_tables.specs.Marks.{end_at, common_at_joint}
use Rattle.reo_rows.specs.Sets.{family_of}
use Rattle.reo_rows.specs.Stands.{HasMark}
use Rattle.reo_rows.proofs.Optional.{ne_some}
use Rattle.reo_rows.proofs.Reading.{board_is, read}
use Rattle.reo_rows.proofs.standing.fails_besides.Goals.{else-ne-via-then-ne+else-not-group_stands_at, else-ne-via-else-ne}
use Rattle.reo_rows.proofs.standing.fails_besides.Goals as goal

pub loop-index-preserved : goal.loop-index-preserved
loop-index-preserved g c =
    let net : Net = net_of g.P.Primitive.behaviour c.args.basis.now.circuit.now in
    let family : Family = family_of c.args.alive.now in
    let side : ℕ = c.args.side in
    let joints : List ℕ = c.at-board.result.now.joints in
    let board = board_is net c.args.basis.now.boards.now c.requires.ready.boards_are side c.requires.side c.at-board.result.now c.at-board.ensures in
    let lt : c.loop-index.index < length joints = omega arith in
    let j = read net side c.at-board.result.now board c.loop-index.index c.at-joint.result.now lt c.at-joint.ensures in
    let P : ℕ → Type 0 = λ k. c.args.besides ≢ Some (end_at net side k).end → HasMark net family side k (common_at_joint net side c.args.group k) in
    below_more (λ (m : ℕ). P (get_or joints m 0)) c.loop-index.index c.loop-index.invariant (subst P j.is (λ off. elim c.else-ne.branch [
      | else-ne-via-then-ne+else-not-group_stands_at w ↦ w.group_stands_at.ensures.0 w.if-not-group_stands_at.false
      | else-ne-via-else-ne w ↦ absurd (off (ne_some c.ne.result c.args.besides c.end_at-end.result.end c.ne.ensures w.if-ne.false ∙ ap (λ (e : End). Some e.end) c.end_at-end.ensures))
    ]))
