use Rattle.std.proofs.Common.{◌≡◌, ◌≢◌, ◌∙◌, ℕ, get_or, true, false, sym, below_more}
use Rattle.reo_net_base.specs.Net.{Net, net_of}
use Rattle.reo_joint_values.specs.Values.{Family}
use Rattle.reo_refute_base.specs.Items.{numbered}
use Rattle.reo_refute_base.specs.Live.{alone}
use Rattle.reo_refute_live.specs.support.Families.{family_of}
use Rattle.reo_refute_live.specs.support.Flows.{FlowsStand}
use Rattle.reo_refute_live.proofs.support.support.some_stands.Goals as goal
use Rattle.reo_refute_live.proofs.support.support.some_stands.Goals.{else-rows-row-ne0-via-then-rows-row-ne0+else-flows_stand, else-rows-row-ne0-via-else-rows-row-ne0}

pub loop-row-preserved : goal.loop-row-preserved
loop-row-preserved g c =
    let net : Net = net_of g.P.Primitive.behaviour c.args.asked.now.circuit.now in
    let family : Family = alone (family_of c.args.asked.now.live.now) c.args.asked.now.held c.args.asked.now.value in
    below_more (λ (k : ℕ). get_or c.args.rows.now k 0 ≢ 0 → FlowsStand net (numbered c.args.asked.now.lists.now) family c.args.asked.now.side k c.args.asked.now.columns.now → ⊥)
    c.loop-row.row c.loop-row.invariant (λ set stands. elim c.else-rows-row-ne0.branch [
      | else-rows-row-ne0-via-then-rows-row-ne0+else-flows_stand w ↦ let wrong : false ≡ true = sym w.if-flows_stand.false ∙ w.flows_stand.ensures.1 stands in absurd cc
      | else-rows-row-ne0-via-else-rows-row-ne0 w ↦ set w.if-rows-row-ne0.false
    ])
