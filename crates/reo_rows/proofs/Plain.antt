-- Marks without flow say all that there is to say of a value.
use Rattle.std.proofs.Common.{◌≡◌, ◌≢◌, inl, inr, ℕ, ◌<◌, true, length, Option, Some, None, ap, sym, ◌∙◌, subst}
use Rattle.std.specs.Bool.{◌==◌}
use Rattle.std.proofs.lemmas.Bool.{cond-true, cond-false, eq-eqb, ne_eqb}
use Rattle.reo_values.specs.declared.value.Value.{Value}
use Rattle.reo_net_base.specs.declared.mark.Mark.TheVariants.{F}
use Rattle.reo_net_base.specs.Net.{Net}
use Rattle.reo_net_base.specs.Wired.{IsWired}
use Rattle.reo_net_laws.specs.Ends.{mark_in, IsRowOf}
use Rattle.reo_joint_values.specs.declared.value.JointValue.{JointValue}
use Rattle.reo_joint_values.specs.Values.{giver_mark, taker_mark, Names, Family, no_joint, joint_of, giver_side, taker_side}
use Rattle.reo_joint_values.specs.Works.{Follows, IsGivenAs, TakerWorks, GiverUses, ValueWorks}
use Rattle.reo_joint_values.proofs.Fitting.{decided, follows_dependent}
use Rattle.reo_joint_values.proofs.Fitting.Decided.{by_none, by_joint}
use Rattle.reo_joint_values.proofs.Marks.{no_item}
use Rattle.reo_side_tables.specs.Marks.{end_at, mark_at_joint, IsJointOf}
use Rattle.reo_rows.specs.Stands.{value_mark}

-- At a joint a side is the giver's or, else, the taker's.
module _ (net : Net) (side j : ℕ) where
  pub giver_seen : giver_side net j ≡ side → (v : JointValue) → value_mark net side j v ≡ giver_mark v
  giver_seen at v = cond-true (giver_side net j == side) (giver_mark v) (taker_mark v) (eq-eqb (giver_side net j) side at)

  pub other_seen : giver_side net j ≢ side → (v : JointValue) → value_mark net side j v ≡ taker_mark v
  other_seen off v = cond-false (giver_side net j == side) (giver_mark v) (taker_mark v) (ne_eqb (giver_side net j) side off)

  pub giver_end : giver_side net j ≡ side → end_at net side j ≡ (joint_of net j).giver
  giver_end at = cond-true (giver_side net j == side) (joint_of net j).giver (joint_of net j).taker (eq-eqb (giver_side net j) side at)

  pub giver_says : (row : ℕ) → giver_side net j ≡ side → mark_at_joint net side row j ≡ mark_in net row (joint_of net j).giver
  giver_says row at = ap (mark_in net row) (giver_end at)

  module _ (wired : IsWired net) (lt : j < length net.joints) (at : taker_side net j ≡ side) where
    gives_not : giver_side net j ≢ side
    gives_not e = wired.apart j no_joint lt (e ∙ sym at)

    pub taker_seen : (v : JointValue) → value_mark net side j v ≡ taker_mark v
    taker_seen v = other_seen gives_not v

    pub taker_end : end_at net side j ≡ (joint_of net j).taker
    taker_end = cond-false (giver_side net j == side) (joint_of net j).giver (joint_of net j).taker (ne_eqb (giver_side net j) side gives_not)

    pub taker_says : (row : ℕ) → mark_at_joint net side row j ≡ mark_in net row (joint_of net j).taker
    taker_says row = ap (mark_in net row) taker_end

-- Only where a row takes in with flow something follows.
pub none_follows : (net : Net) → IsWired net → (side row j k : ℕ) → IsRowOf net side row → j < length net.joints → k < length net.joints → giver_side net k ≡ side
    → mark_in net row (joint_of net j).taker ≢ F → Follows net row k j → ⊥
none_follows net wired side row j k in_table j_in k_in at still f = elim (decided net wired side row k k_in at in_table) [
  | by_none never ↦ never (follows_dependent net row k j f)
  | by_joint i i_in i_at follows flows only ↦ still (subst (λ (m : ℕ). mark_in net row (joint_of net m).taker ≡ F) (sym (only j j_in f)) flows)
]

module _ (net : Net) (wired : IsWired net) (names : Names) (family : Family) (side row j : ℕ) (in_table : IsRowOf net side row) (j_in : j < length net.joints) (v : JointValue) (has : family j v ≡ true) where
  -- A value without flow is taken in by its mark alone.
  pub taken_plain : taker_mark v ≡ mark_in net row (joint_of net j).taker → taker_mark v ≢ F → TakerWorks net names family side row j v
  taken_plain mark still = record {
    has = has;
    takes = record { mark = mark; let_in = λ item is. let none : None ≡ Some item = sym (no_item names j v still) ∙ is in absurd cc };
    rest = λ k k_in at follows. absurd (none_follows net wired side row j k in_table j_in k_in at (λ e. still (mark ∙ e)) follows);
  }

  given_plain : (taken : Option Value) → giver_mark v ≡ mark_in net row (joint_of net j).giver → giver_mark v ≢ F → IsGivenAs net names row j taken v
  given_plain taken mark still = record { mark = mark; item = λ flows. absurd (still flows) }

  -- And it is given by its mark alone.
  uses_plain : giver_mark v ≡ mark_in net row (joint_of net j).giver → giver_mark v ≢ F → GiverUses net names family side row j v
  uses_plain mark still = record {
    mark = mark;
    alone = λ never. given_plain None mark still;
    after = λ i i_in i_at follows. absurd (still (mark ∙ follows.flows));
  }

  -- So it goes with a row that has its mark.
  pub goes_plain : value_mark net side j v ≡ mark_at_joint net side row j → mark_at_joint net side row j ≢ F → ValueWorks net names family side row j v
  goes_plain same still = record {
    taker = λ at.
        let mark : taker_mark v ≡ mark_in net row (joint_of net j).taker = sym (taker_seen net side j wired j_in at v) ∙ same ∙ taker_says net side j wired j_in at row in
        taken_plain mark (λ e. still (taker_says net side j wired j_in at row ∙ sym mark ∙ e));
    giver = λ at.
        let mark : giver_mark v ≡ mark_in net row (joint_of net j).giver = sym (giver_seen net side j at v) ∙ same ∙ giver_says net side j row at in
        uses_plain mark (λ e. still (giver_says net side j row at ∙ sym mark ∙ e));
  }

-- A value that goes with a row has its mark.
pub goes_mark : (net : Net) → IsWired net → (names : Names) (family : Family) (side row j : ℕ) (v : JointValue) → IsJointOf net side j → ValueWorks net names family side row j v
    → value_mark net side j v ≡ mark_at_joint net side row j
goes_mark net wired names family side row j v of works = elim of.here [
  | inl at ↦ giver_seen net side j at v ∙ (works.giver at).mark ∙ sym (giver_says net side j row at)
  | inr at ↦ taker_seen net side j wired of.in_range at v ∙ (works.taker at).takes.mark ∙ sym (taker_says net side j wired of.in_range at row)
]
