use Rattle.std.proofs.Common.{◌≡◌, ◌∙◌, ◌<◌, ℕ, length, true, false, option_copied, Some, refl, sym, arith, below_more}
use Rattle.reo_net_base.specs.Net.{Net, net_of}
use Rattle.reo_joint_values.specs.declared.value.JointValue.TheVariants.{Flow}
use Rattle.reo_joint_values.specs.Values.{Family, joint_of}
use Rattle.reo_joint_values.specs.Fitting.{given_for}
use Rattle.reo_refute_base.specs.Items.{numbered}
use Rattle.reo_refute_base.specs.Live.{alone}
use Rattle.reo_refute_live.specs.support.Families.{family_of}
use Rattle.reo_refute_live.proofs.support.Giving.{item_at, is_given}
use Rattle.reo_refute_live.proofs.support.flows.gives_some.Goals as goal
use Rattle.reo_refute_live.proofs.support.flows.gives_some.Goals.{else-may_flow-via-then-may_flow+else-gives_item, else-may_flow-via-else-may_flow}

pub returns-then-gives_item : goal.returns-then-gives_item
returns-then-gives_item g c =
    let net : Net = net_of g.P.Primitive.behaviour c.args.asked.now.circuit.now in
    let family : Family = alone (family_of c.args.asked.now.live.now) c.args.asked.now.held c.args.asked.now.value in
    let lt : c.args.joint < length c.args.asked.now.lists.now = omega (arith, c.requires.ready.supply, c.requires.gives.in_range) in
    let named : numbered c.args.asked.now.lists.now c.args.joint c.loop-number.number ≡ Some c.at.result.now =
    item_at c.args.asked.now.lists.now c.args.joint c.loop-number.number c.index-lists-joint.result c.at.result.now lt c.index-lists-joint.is (omega (arith, c.loop-number-test.true, c.len-number-end.ensures)) c.at.ensures in (
      λ _. is_given net (numbered c.args.asked.now.lists.now) family c.args.asked.now.side c.args.row c.args.joint (option_copied c.args.taken) c.loop-number.number c.at.result.now c.requires.gives named
          (sym c.may_flow.ensures ∙ c.if-may_flow.true) (c.gives_item.ensures.0 c.if-gives_item.true),
      λ _. refl,
    )

pub loop-number-preserved : goal.loop-number-preserved
loop-number-preserved g c =
    let net : Net = net_of g.P.Primitive.behaviour c.args.asked.now.circuit.now in
    let family : Family = alone (family_of c.args.asked.now.live.now) c.args.asked.now.held c.args.asked.now.value in
    let lt : c.args.joint < length c.args.asked.now.lists.now = omega (arith, c.requires.ready.supply, c.requires.gives.in_range) in
    below_more (λ (n : ℕ). family c.args.joint (Flow n) ≡ true → given_for net c.args.row (joint_of net c.args.joint).giver (option_copied c.args.taken) ≡ numbered c.args.asked.now.lists.now c.args.joint n → ⊥)
    c.loop-number.number c.loop-number.invariant (λ has given. elim c.else-may_flow.branch [
      | else-may_flow-via-then-may_flow+else-gives_item w ↦
          let named = item_at c.args.asked.now.lists.now c.args.joint c.loop-number.number c.index-lists-joint.result w.at.result.now lt c.index-lists-joint.is (omega (arith, c.loop-number-test.true, c.len-number-end.ensures)) w.at.ensures in
          let wrong : false ≡ true = sym w.if-gives_item.false ∙ w.gives_item.ensures.1 (given ∙ named) in absurd cc
      | else-may_flow-via-else-may_flow w ↦
          let wrong : false ≡ true = sym w.if-may_flow.false ∙ c.may_flow.ensures ∙ has in absurd cc
    ])
