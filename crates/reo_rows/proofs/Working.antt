-- A row works exactly where its marks and its flows stand.
use Rattle.std.proofs.Common.{◌≡◌, inl, inr, ◌↔◌, ℕ, ◌<◌, true, length, Option, Some, None, refl, ap, sym, ◌∙◌, subst}
use Rattle.std.specs.Option.{is_some, IsSome}
use Rattle.reo_net_base.specs.Net.{Net}
use Rattle.reo_net_base.specs.Wired.{IsWired}
use Rattle.reo_net_base.proofs.Marks.{flow_cases}
use Rattle.reo_net_laws.specs.Ends.{mark_in, from_in, IsRowOf}
use Rattle.reo_joint_values.specs.declared.value.JointValue.{JointValue}
use Rattle.reo_joint_values.specs.Values.{giver_mark, taker_mark, Names, Family, joint_of, giver_side, taker_side}
use Rattle.reo_joint_values.specs.Works.{IsDependent, IsGivenIn, TakerHas, RowWorks}
use Rattle.reo_joint_values.proofs.Fitting.{decided}
use Rattle.reo_joint_values.proofs.Fitting.Decided.{by_none, by_joint}
use Rattle.reo_side_tables.specs.Marks.{mark_at_joint}
use Rattle.reo_rows.specs.Stands.{HasMark, MarksStand, FlowsStand}
use Rattle.reo_rows.proofs.Plain.{giver_seen, giver_says, taker_seen, taker_says, taken_plain}

module _ (net : Net) (wired : IsWired net) (names : Names) (family : Family) (side row : ℕ) where
  module _ (works : RowWorks net names family side row) where
    seen_giver : (j : ℕ) → giver_side net j ≡ side → (v : JointValue) → family j v ≡ true → giver_mark v ≡ mark_in net row (joint_of net j).giver → HasMark net family side j (mark_at_joint net side row j)
    seen_giver j at v has mark = record { value = v; has = has; marked = giver_seen net side j at v ∙ mark ∙ sym (giver_says net side j row at) }

    marks_stand : MarksStand net family side row
    marks_stand j of = elim of.here [
      | inl at ↦ elim (decided net wired side row j of.in_range at works.in_table) [
        | by_none never ↦ let g = (works.joints j of.in_range).giver at never in seen_giver j at g.value g.has g.given.mark
        | by_joint i i_in i_at follows flows only ↦
            let t = (works.joints i i_in).taker i_at in
            let g = t.works.rest j of.in_range at follows in
            seen_giver j at g.value g.has g.given.mark
      ]
      | inr at ↦
          let t = (works.joints j of.in_range).taker at in
          record { value = t.value; has = t.works.has; marked = taker_seen net side j wired of.in_range at t.value ∙ t.works.takes.mark ∙ sym (taker_says net side j wired of.in_range at row) }
    ]

    flows_stand : FlowsStand net names family side row
    flows_stand = record {
      takes = λ j flow. (works.joints j flow.in_range).taker flow.here;
      gives = λ k flow none. (works.joints k flow.in_range).giver flow.here (λ d. let some : IsSome {T = ℕ} None = subst (λ (o : Option ℕ). IsSome o) none d.from in cc);
    }

  module _ (in_table : IsRowOf net side row) (marks : MarksStand net family side row) (flows : FlowsStand net names family side row) where
    taker_stands : (j : ℕ) → j < length net.joints → taker_side net j ≡ side → TakerHas net names family side row j
    taker_stands j lt at = elim (flow_cases (mark_in net row (joint_of net j).taker)) [
      | inl flow ↦ flows.takes j (record { in_range = lt; here = at; flows = flow })
      | inr still ↦
          let h = marks j (record { in_range = lt; here = inr at }) in
          let mark : taker_mark h.value ≡ mark_in net row (joint_of net j).taker = sym (taker_seen net side j wired lt at h.value) ∙ h.marked ∙ taker_says net side j wired lt at row in
          record { value = h.value; works = taken_plain net wired names family side row j in_table lt h.value h.has mark (λ e. still (sym mark ∙ e)) }
    ]

    giver_stands : (j : ℕ) → j < length net.joints → giver_side net j ≡ side → (IsDependent net row j → ⊥) → IsGivenIn net names family row j None
    giver_stands j lt at never = elim (flow_cases (mark_in net row (joint_of net j).giver)) [
      | inl flow ↦ elim (from_in net row (joint_of net j).giver) as (λ o. from_in net row (joint_of net j).giver ≡ o → IsGivenIn net names family row j None) [
        | None ↦ λ none. flows.gives j (record { in_range = lt; here = at; flows = flow }) none
        | Some from ↦ λ some. absurd (never (record { flows = flow; from = ap is_some some }))
      ] refl
      | inr still ↦
          let h = marks j (record { in_range = lt; here = inl at }) in
          let mark : giver_mark h.value ≡ mark_in net row (joint_of net j).giver = sym (giver_seen net side j at h.value) ∙ h.marked ∙ giver_says net side j row at in
          record { value = h.value; has = h.has; given = record { mark = mark; item = λ e. absurd (still (sym mark ∙ e)) } }
    ]

    works_standing : RowWorks net names family side row
    works_standing = record { in_table = in_table; joints = λ j lt. record { taker = taker_stands j lt; giver = giver_stands j lt } }

  pub works_stands : RowWorks net names family side row ↔ (IsRowOf net side row × (MarksStand net family side row × FlowsStand net names family side row))
  works_stands = (λ works. (works.in_table, (marks_stand works, flows_stand works)), λ h. works_standing h.0 h.1.0 h.1.1)
