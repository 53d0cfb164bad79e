use Rattle.std.proofs.Common.{◌≡◌, ◌≢◌, inl, inr, ℕ, ◌<◌, ◌+◌, sym, ◌∙◌, ap, subst, arith}
use Rattle.std.proofs.lemmas.Bool.{cases_eq}
use Rattle.reo_net_base.specs.declared.joint.End.{End}
use Rattle.reo_net_base.specs.declared.mark.Mark.TheVariants.{F}
use Rattle.reo_net_base.specs.Net.{Net, net_of, no_side}
use Rattle.reo_side_tables.specs.Marks.{groups_in, group_in, common_in, end_at}
use Rattle.reo_side_tables.specs.Flowing.{AreAdded}
use Rattle.reo_side_tables.specs.Grouping.{IsAsGroup, IsAsSomeGroup}
use Rattle.reo_side_tables.proofs.Adding.{added_none, added_both}
use Rattle.reo_side_tables.proofs.Sides.{end_of_side, group_below}
use Rattle.reo_net_base.specs.Marks.{is_flow}
use Rattle.reo_net_base.proofs.Marks.{mark_still}
use Rattle.reo_side_tables.proofs.flows.add_groups.Goals as goal
use Rattle.reo_side_tables.proofs.flows.add_groups.Goals.{then-is_flow+in_ok-add_group, else-is_flow}

pub common-requires-clause-end : goal.common-requires-clause-end
common-requires-clause-end g c =
    let net : Net = net_of g.P.Primitive.behaviour c.args.circuit.now in
    λ e. rw c.end_at-end.ensures (end_of_side net c.known.ensures.wired c.args.side c.args.joint c.requires.joint e)

pub loop-group-preserved : goal.loop-group-preserved
loop-group-preserved g c =
    let net : Net = net_of g.P.Primitive.behaviour c.args.circuit.now in
    let end : ℕ = (end_at net c.args.side c.args.joint).end in
    let common_is : c.common.result ≡ common_in net c.args.side c.loop-group.group end = c.common.ensures no_side ∙ ap (λ (x : End). common_in net c.args.side c.loop-group.group x.end) c.end_at-end.ensures in
    let kept = c.loop-group.invariant in
    elim c.if-is_flow.branch [
      | then-is_flow+in_ok-add_group w ↦
          subst (AreAdded net c.args.side c.args.joint (λ r. (group_in net c.args.side r < c.loop-group.group + 1) × IsAsSomeGroup net c.args.side c.args.joint r) c.args.flows.now) (sym w.flows-is)
          (added_both net c.args.side c.args.joint (λ r. (group_in net c.args.side r < c.loop-group.group) × IsAsSomeGroup net c.args.side c.args.joint r) (IsAsGroup net c.args.side c.loop-group.group c.args.joint) (λ r. (group_in net c.args.side r < c.loop-group.group + 1) × IsAsSomeGroup net c.args.side c.args.joint r)
          c.args.flows.now c.loop-group.flows w.add_group.new.flows kept w.in_ok-add_group.ensures
          (λ r lt at (below, member). elim (cases_eq (group_in net c.args.side r) c.loop-group.group) [
            | inl same ↦ inr (record { of_group = record { in_table = member.in_table; here = same }; with = member.with })
            | inr other ↦ inl (omega arith, member)
          ]))
      | else-is_flow w ↦
          let still : common_in net c.args.side c.loop-group.group end ≢ F = mark_still (common_in net c.args.side c.loop-group.group end) (ap is_flow (sym common_is) ∙ sym c.is_flow.ensures ∙ w.if-is_flow.false) in
          subst (AreAdded net c.args.side c.args.joint (λ r. (group_in net c.args.side r < c.loop-group.group + 1) × IsAsSomeGroup net c.args.side c.args.joint r) c.args.flows.now) (sym w.flows-is)
          (added_both net c.args.side c.args.joint (λ r. (group_in net c.args.side r < c.loop-group.group) × IsAsSomeGroup net c.args.side c.args.joint r) (λ r. ⊥) (λ r. (group_in net c.args.side r < c.loop-group.group + 1) × IsAsSomeGroup net c.args.side c.args.joint r)
          c.args.flows.now c.loop-group.flows c.loop-group.flows kept (added_none net c.args.side c.args.joint (λ r. ⊥) c.loop-group.flows (λ r p. p))
          (λ r lt at (below, member). elim (cases_eq (group_in net c.args.side r) c.loop-group.group) [
            | inl same ↦ absurd (still (ap (λ (x : ℕ). common_in net c.args.side x end) (sym same) ∙ member.flows))
            | inr other ↦ inl (omega arith, member)
          ]))
    ]

pub returns : goal.returns
returns g c =
    let net : Net = net_of g.P.Primitive.behaviour c.args.circuit.now in
    let last : c.loop-group.group ≡ groups_in net c.args.side = omega (arith, c.requires.groups.one_each) in
    added_both net c.args.side c.args.joint (λ r. (group_in net c.args.side r < c.loop-group.group) × IsAsSomeGroup net c.args.side c.args.joint r) (λ r. ⊥) (IsAsSomeGroup net c.args.side c.args.joint) c.args.flows.now c.loop-group.flows c.loop-group.flows
    c.loop-group.invariant (added_none net c.args.side c.args.joint (λ r. ⊥) c.loop-group.flows (λ row p. p))
    (λ row lt mark member. let below = group_below net c.known.ensures.wired c.args.side c.args.joint row c.requires.joint member.in_table in inl (omega (arith, below, last), member))
