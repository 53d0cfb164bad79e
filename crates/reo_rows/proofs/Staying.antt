-- A side stays at rest where a joint of it loses values without flow, if the rows that lack marks there can be spared.
use Rattle.std.proofs.Common.{◌≡◌, ◌≢◌, ◌⊎◌, inl, inr, ℕ, ◌<◌, true, false, List, [], length, get_or, Option, Some, None, refl, ap, sym, ◌∙◌, subst}
use Rattle.std.specs.Bool.{◌==◌}
use Rattle.std.proofs.lemmas.Bool.{cases_eq, and_parts, and_from, false_from_ne_true, eqb-true, eq-eqb}
use Rattle.reo_values.specs.declared.value.Value.{Value}
use Rattle.reo_net_base.specs.declared.mark.Mark.TheVariants.{F}
use Rattle.reo_net_base.specs.Net.{Net}
use Rattle.reo_net_base.specs.Wired.{IsWired}
use Rattle.reo_net_base.proofs.Marks.{flow_cases}
use Rattle.reo_net_laws.specs.Ends.{mark_in, IsRowOf}
use Rattle.reo_joint_values.specs.declared.value.JointValue.{JointValue}
use Rattle.reo_joint_values.specs.declared.value.JointValue.TheVariants.{Flow}
use Rattle.reo_joint_values.specs.Values.{giver_mark, taker_mark, Names, Family, item_named, joint_of, giver_side, taker_side, AtSide}
use Rattle.reo_joint_values.specs.Supported.{IsUsed, IsSettledAt}
use Rattle.reo_joint_values.specs.Works.{IsGivenIn, TakerWorks, RowWorks, ValueWorks}
use Rattle.reo_joint_values.proofs.Works.{works_more, used_row, used_value, value_used}
use Rattle.reo_joint_values.proofs.Marks.{flow_number}
use Rattle.reo_side_tables.specs.Marks.{groups_in, group_in, apart_in, common_in, end_at, mark_at_joint, IsJointOf}
use Rattle.reo_side_tables.proofs.Sides.{mark_as_group, group_below}
use Rattle.reo_rows.specs.declared.groups.Group.{Group}
use Rattle.reo_rows.specs.declared.rows.Rows.{Rows}
use Rattle.reo_rows.specs.RowFlags.{flag}
use Rattle.reo_rows.specs.Stands.{value_mark, HasMark, MarksStand, FlowsStand}
use Rattle.reo_rows.specs.Groups.{live_in, IsNotedOf, AreNoted}
use Rattle.reo_rows.specs.Rows.{IsSifted, IsSpare, IsSpared}
use Rattle.reo_rows.specs.Beginning.{nothing_noted}
use Rattle.reo_rows.proofs.Optional.{is_some_or_not, some_same}
use Rattle.reo_rows.proofs.Plain.{none_follows, goes_plain, goes_mark}
use Rattle.reo_rows.proofs.Working.{works_stands}
use Rattle.reo_rows.proofs.Apart.{same_joint}

-- Where the values with flow are the same, so is what a row takes in and gives.
module _ (net : Net) (wired : IsWired net) (names : Names) (old new : Family) (side row : ℕ) (flows : (j n : ℕ) → j < length net.joints → AtSide net j side → new j (Flow n) ≡ old j (Flow n)) where
  has_still : (j : ℕ) (v : JointValue) → j < length net.joints → AtSide net j side → (giver_mark v ≡ F) ⊎ (taker_mark v ≡ F) → old j v ≡ true → new j v ≡ true
  has_still j v lt at flow has =
      let n = flow_number v flow in
      let was : old j (Flow n.0) ≡ true = subst (λ (w : JointValue). old j w ≡ true) n.1 has in
      subst (λ (w : JointValue). new j w ≡ true) (sym n.1) (flows j n.0 lt at ∙ was)

  given_still : (k : ℕ) (taken : Option Value) → k < length net.joints → giver_side net k ≡ side → mark_in net row (joint_of net k).giver ≡ F → IsGivenIn net names old row k taken → IsGivenIn net names new row k taken
  given_still k taken lt at flow g = record { value = g.value; has = has_still k g.value lt (inl at) (inl (g.given.mark ∙ flow)) g.has; given = g.given }

  taken_still : (j : ℕ) (v : JointValue) → j < length net.joints → taker_side net j ≡ side → new j v ≡ true → TakerWorks net names old side row j v → TakerWorks net names new side row j v
  taken_still j v lt at has t = record {
    has = has;
    takes = t.takes;
    rest = λ k k_in k_at follows. given_still k (item_named names j v) k_in k_at follows.flows (t.rest k k_in k_at follows);
  }

  -- With flow it is taken in still.
  taken_flow : (j : ℕ) (v : JointValue) → j < length net.joints → taker_side net j ≡ side → mark_in net row (joint_of net j).taker ≡ F → TakerWorks net names old side row j v → TakerWorks net names new side row j v
  taken_flow j v lt at flow t = taken_still j v lt at (has_still j v lt (inr at) (inr (t.takes.mark ∙ flow)) t.has) t

  flows_still : FlowsStand net names old side row → FlowsStand net names new side row
  flows_still stands = record {
    takes = λ j flow. let t = stands.takes j flow in record { value = t.value; works = taken_flow j t.value flow.in_range flow.here flow.flows t.works };
    gives = λ k flow none. given_still k None flow.in_range flow.here flow.flows (stands.gives k flow none);
  }

  goes_still : IsRowOf net side row → (j : ℕ) (v : JointValue) → j < length net.joints → new j v ≡ true → ValueWorks net names old side row j v → ValueWorks net names new side row j v
  goes_still in_table j v lt has goes = record {
    taker = λ at. taken_still j v lt at has (goes.taker at);
    giver = λ at. record {
      mark = (goes.giver at).mark;
      alone = (goes.giver at).alone;
      after = λ i i_in i_at follows.
          let t = (goes.giver at).after i i_in i_at follows in
          let works : TakerWorks net names new side row i t.0 = elim (flow_cases (mark_in net row (joint_of net i).taker)) [
            | inl flow ↦ taken_flow i t.0 i_in i_at flow t.1
            | inr still ↦ absurd (none_follows net wired side row i j in_table i_in lt at still follows)
          ] in
          (t.0, works, t.2);
    };
  }

module _ (net : Net) (wired : IsWired net) (names : Names) (old new : Family) (side joint : ℕ) (rows_old rows_new : Rows) (of_joint : IsJointOf net side joint)
    (less : (j : ℕ) (v : JointValue) → new j v ≡ true → old j v ≡ true)
    (flows : (j n : ℕ) → j < length net.joints → AtSide net j side → new j (Flow n) ≡ old j (Flow n))
    (elsewhere : (j : ℕ) (v : JointValue) → j < length net.joints → AtSide net j side → j ≢ joint → new j v ≡ old j v)
    (sifted : IsSifted net names old side rows_old) (settled : IsSettledAt net names old side) (spared : IsSpared net new side joint rows_old rows_new) where
  -- A row that has its flag still works still.
  marks_still : (row : ℕ) → MarksStand net old side row → HasMark net new side joint (mark_at_joint net side row joint) → MarksStand net new side row
  marks_still row stands here j of = elim (cases_eq j joint) [
    | inl same ↦ subst (λ (m : ℕ). HasMark net new side m (mark_at_joint net side row m)) (sym same) here
    | inr other ↦ let h = stands j of in record { value = h.value; has = elsewhere j h.value of.in_range of.here other ∙ h.has; marked = h.marked }
  ]

  works_now : (row : ℕ) → flag rows_new.live side row ≡ true → RowWorks net names new side row
  works_now row set =
      let was = (works_stands net wired names old side row).0 (sifted.only row (spared.others.less row set)) in
      (works_stands net wired names new side row).1 (was.0, (marks_still row was.1.0 (spared.kept row set), flows_still net wired names old new side row flows was.1.1))

  -- And a row that works still has its flag.
  set_now : (row : ℕ) → RowWorks net names new side row → flag rows_new.live side row ≡ true
  set_now row works = elim (spared.gone row (sifted.works row (works_more net names new old side row (λ j v lt at h. less j v h) works))) [
    | inl set ↦ set
    | inr spare ↦ absurd (spare.lacks (((works_stands net wired names new side row).0 works).1.0 joint of_joint))
  ]

  live_was : (group row : ℕ) → live_in net rows_new.live side group row ≡ true → live_in net rows_old.live side group row ≡ true
  live_was group row live =
      let both = and_parts (flag rows_new.live side row) (group_in net side row == group) live in
      and_from (flag rows_old.live side row) (group_in net side row == group) (spared.others.less row both.0) both.1

  -- The noted rows have their flags still.
  module _ (group : ℕ) (d : Group) (lt : group < groups_in net side) where
    abbrev noted : Group
    noted = get_or (get_or rows_old.notes side []) group d

    was_noted : IsNotedOf net side (live_in net rows_old.live side group) noted
    was_noted = sifted.noted group d lt

    live_still : (row : ℕ) → live_in net rows_old.live side group row ≡ true → (group_in net side row ≡ group → IsSpare net new side joint row rows_old → ⊥) → live_in net rows_new.live side group row ≡ true
    live_still row live never =
        let both = and_parts (flag rows_old.live side row) (group_in net side row == group) live in
        let set : flag rows_new.live side row ≡ true = elim (spared.gone row both.0) [
          | inl set ↦ set
          | inr spare ↦ absurd (never (eqb-true (group_in net side row) group both.1) spare)
        ] in
        and_from (flag rows_new.live side row) (group_in net side row == group) set both.1

    first_still : (row : ℕ) → noted.first ≡ Some row → live_in net rows_new.live side group row ≡ true
    first_still row is =
        live_still row (was_noted.first row is)
        (λ here spare. spare.idle.first d (subst (λ (g : ℕ). (get_or (get_or rows_old.notes side []) g d).first ≡ Some row) (sym here) is))

    other_still : (row : ℕ) → noted.other ≡ Some row → live_in net rows_new.live side group row ≡ true
    other_still row is =
        live_still row (was_noted.other row is)
        (λ here spare. spare.idle.other d (subst (λ (g : ℕ). (get_or (get_or rows_old.notes side []) g d).other ≡ Some row) (sym here) is))

    noted_still : IsNotedOf net side (live_in net rows_new.live side group) noted
    noted_still = record {
      none = λ is row. false_from_ne_true (live_in net rows_new.live side group row) (λ live. let both : true ≡ false = sym (live_was group row live) ∙ was_noted.none is row in cc);
      first = first_still;
      other = other_still;
      differ = was_noted.differ;
      alike = λ row other is none live. was_noted.alike row other is none (live_was group other live);
    }

  noted_now : AreNoted net rows_new.live side rows_new.notes
  noted_now = subst (λ (notes : List (List Group)). AreNoted net rows_new.live side notes) (sym spared.notes) noted_still

  -- The rows with their flags are still those that work.
  pub stays_sifted : IsSifted net names new side rows_new
  stays_sifted = record { works = set_now; only = works_now; noted = noted_now }

  -- A value that a spared row used goes with a noted row of its group.
  module _ (i : ℕ) (v : JointValue) (of : IsJointOf net side i) (has : new i v ≡ true) (row : ℕ) (works : RowWorks net names old side row) (goes : ValueWorks net names old side row i v)
      (set : flag rows_old.live side row ≡ true) (spare : IsSpare net new side joint row rows_old) where
    marked : value_mark net side i v ≡ mark_at_joint net side row i
    marked = goes_mark net wired names old side row i v of goes

    still : mark_at_joint net side row i ≢ F
    still = spare.idle.still i of

    not_here : i ≢ joint
    not_here same = spare.lacks (subst (λ (m : ℕ). HasMark net new side m (mark_at_joint net side row m)) same (record { value = v; has = has; marked = marked }))

    as_all : apart_in net side row ≢ Some (end_at net side i).end
    as_all e = not_here (same_joint net wired side i joint of of_joint (some_same (end_at net side i).end (end_at net side joint).end (sym e ∙ spare.apart)))

    by_other : (other : ℕ) → live_in net rows_new.live side (group_in net side row) other ≡ true → apart_in net side other ≢ Some (end_at net side i).end → IsUsed net names new side i v
    by_other other live off =
        let both = and_parts (flag rows_new.live side other) (group_in net side other == group_in net side row) live in
        let here : group_in net side other ≡ group_in net side row = eqb-true (group_in net side other) (group_in net side row) both.1 in
        let works_other = works_now other both.0 in
        let same : mark_at_joint net side other i ≡ mark_at_joint net side row i =
        mark_as_group net wired side i other of works_other.in_table off
        ∙ ap (λ (g : ℕ). common_in net side g (end_at net side i).end) here
        ∙ sym (mark_as_group net wired side i row of works.in_table as_all) in
        let goes_other = goes_plain net wired names new side other i works_other.in_table of.in_range v has (marked ∙ sym same) (λ e. still (sym same ∙ e)) in
        value_used net wired names new side i v of.in_range of.here other has works_other goes_other

    group_in_range : group_in net side row < groups_in net side
    group_in_range = group_below net wired side i row of works.in_table

    abbrev of_group : Group
    of_group = get_or (get_or rows_old.notes side []) (group_in net side row) nothing_noted

    live_row : live_in net rows_old.live side (group_in net side row) row ≡ true
    live_row = and_from (flag rows_old.live side row) (group_in net side row == group_in net side row) set (eq-eqb (group_in net side row) (group_in net side row) refl)

    was : IsNotedOf net side (live_in net rows_old.live side (group_in net side row)) of_group
    was = sifted.noted (group_in net side row) nothing_noted group_in_range

    by_second : (first : ℕ) → of_group.first ≡ Some first → apart_in net side first ≡ Some (end_at net side i).end → IsUsed net names new side i v
    by_second first is on = elim of_group.other as (λ o. of_group.other ≡ o → IsUsed net names new side i v) [
      | None ↦ λ none. absurd (as_all (was.alike first row is none live_row ∙ on))
      | Some other ↦ λ other_is. by_other other (other_still (group_in net side row) nothing_noted group_in_range other other_is) (λ e. was.differ first other is other_is (e ∙ sym on))
    ] refl

    by_noted : IsUsed net names new side i v
    by_noted = elim of_group.first as (λ o. of_group.first ≡ o → IsUsed net names new side i v) [
      | None ↦ λ none. let both : true ≡ false = sym live_row ∙ was.none none row in absurd cc
      | Some first ↦ λ is. elim (is_some_or_not (apart_in net side first) (end_at net side i).end) [
        | inl on ↦ by_second first is on
        | inr off ↦ by_other first (first_still (group_in net side row) nothing_noted group_in_range first is) off
      ]
    ] refl

  -- Each value is used still.
  pub stays_settled : IsSettledAt net names new side
  stays_settled i v lt at has =
      let u = settled i v lt at (less i v has) in
      let works = used_row net wired names old side i v lt at u in
      let goes = used_value net wired names old side i v lt at u in
      let set = sifted.works u.row works in
      elim (spared.gone u.row set) [
        | inl stays ↦ value_used net wired names new side i v lt at u.row has (works_now u.row stays) (goes_still net wired names old new side u.row flows works.in_table i v lt has goes)
        | inr spare ↦ by_noted i v (record { in_range = lt; here = at }) has u.row works goes set spare
      ]
