use Rattle.std.proofs.Common.{◌≡◌, ◌∙◌, ◌<◌, ℕ, length, true, false, Some, refl, sym, arith, below_more}
use Rattle.reo_net_base.specs.Net.{Net, net_of}
use Rattle.reo_joint_values.specs.declared.value.JointValue.TheVariants.{Flow}
use Rattle.reo_joint_values.specs.Values.{Family}
use Rattle.reo_joint_values.specs.Works.{TakerWorks}
use Rattle.reo_refute_base.specs.Items.{numbered}
use Rattle.reo_refute_base.specs.Live.{alone}
use Rattle.reo_refute_live.specs.support.Families.{family_of}
use Rattle.reo_refute_live.proofs.support.Giving.{item_at, taken_works, taken_passes, taken_passed}
use Rattle.reo_refute_live.proofs.support.flows.takes_some.Goals as goal
use Rattle.reo_refute_live.proofs.support.flows.takes_some.Goals.{else-may_flow-via-then-may_flow+then-lets_in+else-passes_on, else-may_flow-via-then-may_flow+else-lets_in, else-may_flow-via-else-may_flow}

pub returns-then-passes_on : goal.returns-then-passes_on
returns-then-passes_on g c =
    let net : Net = net_of g.P.Primitive.behaviour c.args.asked.now.circuit.now in
    let family : Family = alone (family_of c.args.asked.now.live.now) c.args.asked.now.held c.args.asked.now.value in
    let lt : c.args.joint < length c.args.asked.now.lists.now = omega (arith, c.requires.ready.supply, c.requires.takes.in_range) in
    let named : numbered c.args.asked.now.lists.now c.args.joint c.loop-number.number ≡ Some c.at-item.result.now =
    item_at c.args.asked.now.lists.now c.args.joint c.loop-number.number c.index-lists-joint.result c.at-item.result.now lt c.index-lists-joint.is (omega (arith, c.loop-number-test.true, c.len-number-end.ensures)) c.at-item.ensures in (
      λ _. taken_works net (numbered c.args.asked.now.lists.now) family c.args.asked.now.side c.args.row c.args.joint c.loop-number.number c.at-item.result.now c.requires.takes named
          (sym c.may_flow.ensures ∙ c.if-may_flow.true) (sym c.lets_in.ensures ∙ c.if-lets_in.true) (c.passes_on.ensures.0 c.if-passes_on.true),
      λ _. refl,
    )

pub loop-number-preserved : goal.loop-number-preserved
loop-number-preserved g c =
    let net : Net = net_of g.P.Primitive.behaviour c.args.asked.now.circuit.now in
    let family : Family = alone (family_of c.args.asked.now.live.now) c.args.asked.now.held c.args.asked.now.value in
    let lt : c.args.joint < length c.args.asked.now.lists.now = omega (arith, c.requires.ready.supply, c.requires.takes.in_range) in
    let named : numbered c.args.asked.now.lists.now c.args.joint c.loop-number.number ≡ Some c.at-item.result.now =
    item_at c.args.asked.now.lists.now c.args.joint c.loop-number.number c.index-lists-joint.result c.at-item.result.now lt c.index-lists-joint.is (omega (arith, c.loop-number-test.true, c.len-number-end.ensures)) c.at-item.ensures in
    below_more (λ (n : ℕ). TakerWorks net (numbered c.args.asked.now.lists.now) family c.args.asked.now.side c.args.row c.args.joint (Flow n) → ⊥)
    c.loop-number.number c.loop-number.invariant (λ works. elim c.else-may_flow.branch [
      | else-may_flow-via-then-may_flow+then-lets_in+else-passes_on w ↦
          let wrong : false ≡ true = sym w.if-passes_on.false ∙ w.passes_on.ensures.1 (taken_passed net (numbered c.args.asked.now.lists.now) family c.args.asked.now.side c.args.row c.args.joint c.loop-number.number c.at-item.result.now named works) in absurd cc
      | else-may_flow-via-then-may_flow+else-lets_in w ↦
          let wrong : false ≡ true = sym w.if-lets_in.false ∙ w.lets_in.ensures ∙ taken_passes net (numbered c.args.asked.now.lists.now) family c.args.asked.now.side c.args.row c.args.joint c.loop-number.number c.at-item.result.now named works in absurd cc
      | else-may_flow-via-else-may_flow w ↦ let wrong : false ≡ true = sym w.if-may_flow.false ∙ c.may_flow.ensures ∙ works.has in absurd cc
    ])
