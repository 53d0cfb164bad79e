use Rattle.std.proofs.Common.{ℕ, get_or, below_more}
use Rattle.std.proofs.lemmas.Bool.{both_ways}
use Rattle.reo_net_base.specs.Net.{Net, net_of}
use Rattle.reo_rows.specs.Sparing.{IsIdle, IsLacking}
use Rattle.reo_rows.proofs.standing.can_spare.Goals.{else-lacks_mark-via-then-lacks_mark+else-not-is_idle, else-lacks_mark-via-else-lacks_mark}
use Rattle.reo_rows.proofs.standing.can_spare.Goals as goal

pub loop-index-preserved : goal.loop-index-preserved
loop-index-preserved g c =
    let net : Net = net_of g.P.Primitive.behaviour c.args.resting.now.circuit.now in
    below_more (λ (m : ℕ). IsLacking net c.args.live.now c.args.resting.now.side c.args.resting.now.joint c.args.resting.now.marks (get_or c.args.list.now m 0) → IsIdle net c.args.resting.now.side (get_or c.args.list.now m 0) c.args.notes.now)
    c.loop-index.index c.loop-index.invariant (λ lacking. elim c.else-lacks_mark.branch [
      | else-lacks_mark-via-then-lacks_mark+else-not-is_idle w ↦ w.is_idle.ensures.0 w.if-not-is_idle.false
      | else-lacks_mark-via-else-lacks_mark w ↦ absurd (both_ways c.lacks_mark.result w.if-lacks_mark.false (c.lacks_mark.ensures.1 lacking))
    ])
