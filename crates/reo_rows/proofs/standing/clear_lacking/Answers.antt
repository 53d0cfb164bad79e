use Rattle.std.proofs.Common.{◌+◌, ◌∙◌, ℕ, List, Bool, subst, sym, arith}
use Rattle.std.proofs.lemmas.Bool.{both_ways}
use Rattle.reo_net_base.specs.Net.{Net, net_of}
use Rattle.reo_rows.specs.RowFlags.{AreAlikeTables}
use Rattle.reo_rows.specs.Sparing.{AreCleared}
use Rattle.reo_rows.proofs.Idle.{cleared_keep, cleared_more}
use Rattle.reo_rows.proofs.standing.clear_lacking.Goals.{then-lacks_mark, else-lacks_mark}
use Rattle.reo_rows.proofs.standing.clear_lacking.Goals as goal

pub loop-index-preserved : goal.loop-index-preserved
loop-index-preserved g c =
    let net : Net = net_of g.P.Primitive.behaviour c.args.resting.now.circuit.now in
    let side : ℕ = c.args.resting.now.side in
    let start : List (List Bool) = c.args.live.now in
    let now : List (List Bool) = c.loop-index.live in
    let n : ℕ = c.loop-index.index in
    let list : List ℕ = c.args.list.now in
    elim c.if-lacks_mark.branch [
      | then-lacks_mark w ↦ record {
        alike = subst (λ (t : List (List Bool)). AreAlikeTables start t) (sym w.live-is) (record { rows = w.clear.ensures.alike.rows ∙ c.loop-index.invariant.alike.rows; width = λ r. w.clear.ensures.alike.width r ∙ c.loop-index.invariant.alike.width r });
        cleared = subst (λ (t : List (List Bool)). AreCleared net side c.args.resting.now.joint c.args.resting.now.marks list (n + 1) start t) (sym w.live-is)
            (cleared_more net side c.args.resting.now.joint c.args.resting.now.marks list n start now c.loop-index.invariant.cleared w.clear.new.self w.clear.ensures.flags (omega arith) (c.lacks_mark.ensures.0 w.if-lacks_mark.true));
      }
      | else-lacks_mark w ↦ record {
        alike = subst (λ (t : List (List Bool)). AreAlikeTables start t) (sym w.live-is) c.loop-index.invariant.alike;
        cleared = subst (λ (t : List (List Bool)). AreCleared net side c.args.resting.now.joint c.args.resting.now.marks list (n + 1) start t) (sym w.live-is)
            (cleared_keep net side c.args.resting.now.joint c.args.resting.now.marks list n start now c.loop-index.invariant.cleared (λ lacking. both_ways c.lacks_mark.result w.if-lacks_mark.false (c.lacks_mark.ensures.1 lacking)));
      }
    ]
