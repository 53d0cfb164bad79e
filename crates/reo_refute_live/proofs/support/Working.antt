-- A row works exactly where its marks and its flows stand at the columns of its side.
use Rattle.std.proofs.Common.{◌≡◌, ◌≢◌, inl, inr, ◌↔◌, ℕ, ◌<◌, Bool, true, false, List, length, get_or, Option, Some, None, refl, ap, sym, ◌∙◌, subst}
use Rattle.std.specs.Option.{is_some, IsSome}
use Rattle.reo_net_base.specs.declared.mark.Mark.TheVariants.{F}
use Rattle.reo_net_base.specs.Net.{Net, side_at}
use Rattle.reo_net_base.specs.Wired.{IsWired}
use Rattle.reo_net_base.proofs.Marks.{flow_cases}
use Rattle.reo_net_laws.specs.Ends.{mark_in, from_in, IsRowOf}
use Rattle.reo_joint_values.specs.declared.value.JointValue.{JointValue}
use Rattle.reo_joint_values.specs.Values.{taker_mark, Names, Family, joint_of, giver_side, taker_side}
use Rattle.reo_joint_values.specs.Works.{IsDependent, IsGivenIn, Follows, TakerWorks, TakerHas, RowWorks}
use Rattle.reo_joint_values.proofs.Fitting.{decided, follows_dependent}
use Rattle.reo_joint_values.proofs.Fitting.Decided.{by_none, by_joint}
use Rattle.reo_joint_values.proofs.Marks.{no_item}
use Rattle.reo_refute_live.specs.declared.support.columns.Column.{Column}
use Rattle.reo_refute_live.specs.support.Columns.{IsColumn, HasColumn, AreColumns, joint_end, no_column}
use Rattle.reo_refute_live.specs.support.Flows.{FlowStands, FlowsStand, MarkStands, MarksStand}
use Rattle.reo_side_tables.specs.Marks.{TakesFlow, GivesFlow}
use Rattle.reo_refute_live.specs.support.Marks.{value_mark}

module _ (net : Net) (wired : IsWired net) (names : Names) (family : Family) (side row : ℕ) where
  -- Only where a row takes in with flow something follows.
  none_follows : IsRowOf net side row → (j k : ℕ) → j < length net.joints → k < length net.joints → giver_side net k ≡ side
      → mark_in net row (joint_of net j).taker ≢ F → Follows net row k j → ⊥
  none_follows in_table j k j_in k_in at still f = elim (decided net wired side row k k_in at in_table) [
    | by_none never ↦ never (follows_dependent net row k j f)
    | by_joint i i_in i_at follows flows only ↦ still (subst (λ (m : ℕ). mark_in net row (joint_of net m).taker ≡ F) (sym (only j j_in f)) flows)
  ]

  -- A value without flow is taken in by its mark alone.
  taken_plain : IsRowOf net side row → (j : ℕ) → j < length net.joints → (v : JointValue) → family j v ≡ true
      → taker_mark v ≡ mark_in net row (joint_of net j).taker → taker_mark v ≢ F → TakerWorks net names family side row j v
  taken_plain in_table j j_in v has mark still = record {
    has = has;
    takes = record { mark = mark; let_in = λ item is. let none : None ≡ Some item = sym (no_item names j v still) ∙ is in absurd cc };
    rest = λ k k_in at follows. absurd (none_follows in_table j k j_in k_in at (λ e. still (mark ∙ e)) follows);
  }

  -- What works stands at a column.
  module _ (works : RowWorks net names family side row) where
    marked_for : (j : ℕ) (gives : Bool) → j < length net.joints → side_at net (joint_end net j gives) ≡ side
        → (v : JointValue) × (family j v ≡ true) × (value_mark gives v ≡ mark_in net row (joint_end net j gives))
    marked_for j true lt at = elim (decided net wired side row j lt at works.in_table) [
      | by_none never ↦ let g = (works.joints j lt).giver at never in (g.value, g.has, g.given.mark)
      | by_joint i i_in i_at follows flows only ↦
          let t = (works.joints i i_in).taker i_at in
          let g = t.works.rest j lt at follows in
          (g.value, g.has, g.given.mark)
    ]
    marked_for j false lt at =
        let t = (works.joints j lt).taker at in
        (t.value, t.works.has, t.works.takes.mark)

    pub mark_stands : (column : Column) → IsColumn net side column → MarkStands net family row column
    mark_stands column is =
        let x = marked_for column.joint column.gives is.in_range is.at_side in
        record { value = x.0; has = x.1; marked = x.2 }

    pub flow_stands : (column : Column) → FlowStands net names family side row column
    flow_stands column = record {
      takes = λ _ flow. (works.joints column.joint flow.in_range).taker flow.here;
      gives = λ _ flow none. (works.joints column.joint flow.in_range).giver flow.here (λ d. let some : IsSome {T = ℕ} None = subst (λ (o : Option ℕ). IsSome o) none d.from in cc);
    }

  module _ (in_table : IsRowOf net side row) (columns : List Column) (are : AreColumns net side columns)
      (marks : MarksStand net family row columns) (flows : FlowsStand net names family side row columns) where
    -- What stands at the column of an end.
    at_column : (j : ℕ) (gives : Bool) → HasColumn columns j gives → (column : Column) × (column.joint ≡ j) × (column.gives ≡ gives) × MarkStands net family row column × FlowStands net names family side row column
    at_column j gives h = (get_or columns h.place no_column, h.joint, h.gives_is, marks h.place h.in_range, flows h.place h.in_range)

    marked_at : (j : ℕ) (gives : Bool) (column : Column) → column.joint ≡ j → column.gives ≡ gives → MarkStands net family row column
        → (v : JointValue) × (family j v ≡ true) × (value_mark gives v ≡ mark_in net row (joint_end net j gives))
    marked_at j gives column j_is gives_is m =
        subst (λ (i : ℕ). (v : JointValue) × (family i v ≡ true) × (value_mark gives v ≡ mark_in net row (joint_end net i gives))) j_is
        (subst (λ (b : Bool). (v : JointValue) × (family column.joint v ≡ true) × (value_mark b v ≡ mark_in net row (joint_end net column.joint b))) gives_is (m.value, m.has, m.marked))

    taker_stands : (j : ℕ) → j < length net.joints → taker_side net j ≡ side → TakerHas net names family side row j
    taker_stands j lt at =
        let c = at_column j false (are.takers j lt at) in
        elim (flow_cases (mark_in net row (joint_of net j).taker)) [
          | inl flow ↦
              subst (λ (i : ℕ). TakerHas net names family side row i) c.1
              (c.4.takes c.2 (subst (λ (i : ℕ). TakesFlow net side row i) (sym c.1) (record { in_range = lt; here = at; flows = flow })))
          | inr still ↦
              let h = marked_at j false c.0 c.1 c.2 c.3 in
              record { value = h.0; works = taken_plain in_table j lt h.0 h.1 h.2 (λ e. still (sym h.2 ∙ e)) }
        ]

    giver_stands : (j : ℕ) → j < length net.joints → giver_side net j ≡ side → (IsDependent net row j → ⊥) → IsGivenIn net names family row j None
    giver_stands j lt at never =
        let c = at_column j true (are.givers j lt at) in
        elim (flow_cases (mark_in net row (joint_of net j).giver)) [
          | inl flow ↦ elim (from_in net row (joint_of net j).giver) as (λ o. from_in net row (joint_of net j).giver ≡ o → IsGivenIn net names family row j None) [
            | None ↦ λ none.
                subst (λ (i : ℕ). IsGivenIn net names family row i None) c.1
                (c.4.gives c.2 (subst (λ (i : ℕ). GivesFlow net side row i) (sym c.1) (record { in_range = lt; here = at; flows = flow }))
                (subst (λ (i : ℕ). from_in net row (joint_of net i).giver ≡ None) (sym c.1) none))
            | Some from ↦ λ some. absurd (never (record { flows = flow; from = ap is_some some }))
          ] refl
          | inr still ↦
              let h = marked_at j true c.0 c.1 c.2 c.3 in
              record { value = h.0; has = h.1; given = record { mark = h.2; item = λ e. absurd (still (sym h.2 ∙ e)) } }
        ]

    pub works_standing : RowWorks net names family side row
    works_standing = record { in_table = in_table; joints = λ j lt. record { taker = taker_stands j lt; giver = giver_stands j lt } }

  pub works_by_columns : (columns : List Column) → AreColumns net side columns
      → RowWorks net names family side row ↔ (IsRowOf net side row × (MarksStand net family row columns × FlowsStand net names family side row columns))
  works_by_columns columns are = (
    λ works. (works.in_table, (λ m lt. mark_stands works (get_or columns m no_column) (are.each m lt), λ m lt. flow_stands works (get_or columns m no_column))),
    λ h. works_standing h.0 columns are h.1.0 h.1.1,
  )
