-- When sides stay at rest.
use Rattle.std.proofs.Common.{◌≡◌, ◌≢◌, ◌⊎◌, inl, inr, ℕ, ◌+◌, ◌<◌, Bool, true, false, ◌&&◌, List, [], length, get_or, refl, ap, sym, ◌∙◌, subst, arith}
use Rattle.std.specs.Bool.{◌==◌}
use Rattle.std.proofs.lemmas.Bool.{cases_eq}
use Rattle.reo_net_base.specs.Net.{Net}
use Rattle.reo_net_base.specs.Wired.{IsWired}
use Rattle.reo_joint_values.specs.declared.value.JointValue.{JointValue}
use Rattle.reo_joint_values.specs.declared.value.JointValue.TheVariants.{Flow}
use Rattle.reo_joint_values.specs.Values.{Names, Family, no_joint, giver_side, taker_side, AtSide}
use Rattle.reo_joint_values.proofs.Works.{works_more}
use Rattle.reo_joint_values.proofs.Narrowing.{settled_same}
use Rattle.reo_side_tables.specs.Marks.{group_in, IsJointOf}
use Rattle.reo_rows.specs.declared.rows.Rows.{Rows}
use Rattle.reo_rows.specs.declared.groups.Group.{Group}
use Rattle.reo_rows.specs.RowFlags.{flag}
use Rattle.reo_rows.specs.Sets.{code_of, family_of}
use Rattle.reo_rows.specs.Groups.{live_in, IsNoted, AreNoted}
use Rattle.reo_rows.specs.Rows.{AreLive, IsSifted, IsSeen, IsLiveUse, OtherSidesStay, IsSpared}
use Rattle.reo_rows.proofs.Staying.{stays_sifted, stays_settled}
use Rattle.reo_propagate.specs.declared.queue.WaitingSides.{WaitingSides}
use Rattle.reo_propagate.specs.declared.thinning.Loss.{Loss}
use Rattle.reo_propagate.specs.Narrow.{IsAtRest, IsAwakeOrStays, IsCut, OtherRowsMayGo}

-- Whatever is said of a side stays.
pub record SideStays (side : ℕ) (old new : Rows) : Type 0 where
  pub flags : (row : ℕ) → flag new.live side row ≡ flag old.live side row
  pub notes : get_or new.notes side [] ≡ get_or old.notes side []

pub stays_others : (side s : ℕ) (old new : Rows) → OtherSidesStay side old new → s ≢ side → SideStays s old new
stays_others side s old new others ne = record { flags = λ row. others.flags s row ne; notes = others.notes s ne }

pub stays_here : (side : ℕ) (old new : Rows) → OtherRowsMayGo side old new → SideStays side old new
stays_here side old new rows = record { flags = rows.here; notes = ap (λ (n : List (List Group)). get_or n side []) rows.notes }

module _ (net : Net) (side : ℕ) (old new : Rows) (stays : SideStays side old new) where
  live_same : (group row : ℕ) → live_in net new.live side group row ≡ live_in net old.live side group row
  live_same group row = ap (λ (b : Bool). b && (group_in net side row == group)) (stays.flags row)

  noted_as : (group : ℕ) (noted : Group) → IsNoted net old.live side group noted → IsNoted net new.live side group noted
  noted_as group noted is = record {
    none = λ e row. live_same group row ∙ is.none e row;
    first = λ row e. live_same group row ∙ is.first row e;
    other = λ row e. live_same group row ∙ is.other row e;
    differ = is.differ;
    alike = λ row other e f h. is.alike row other e f (sym (live_same group other) ∙ h);
  }

  pub noted_stays : AreNoted net old.live side old.notes → AreNoted net new.live side new.notes
  noted_stays noted group d lt = noted_as group (get_or (get_or new.notes side []) group d)
      (subst (λ (l : List Group). IsNoted net old.live side group (get_or l group d)) (sym stays.notes) (noted group d lt))

  module _ (names : Names) (family : Family) where
    pub works_stays : AreLive net names family side old → AreLive net names family side new
    works_stays works row w = stays.flags row ∙ works row w

    pub sifted_stays : IsSifted net names family side old → IsSifted net names family side new
    sifted_stays s = record {
      works = works_stays s.works;
      only = λ row h. s.only row (sym (stays.flags row) ∙ h);
      noted = noted_stays s.noted;
    }

    pub rests_stays : IsAtRest net names family side old → IsAtRest net names family side new
    rests_stays r = record { sifted = sifted_stays r.sifted; settled = r.settled }

-- What was seen at a side stays seen.
pub seen_stays : (net : Net) (names : Names) (family : Family) (side : ℕ) (old new : Rows) → OtherRowsMayGo side old new → IsSeen net names family side old → IsSeen net names family side new
seen_stays net names family side old new rows seen = record {
  sound = λ j code of le h.
      let u : IsLiveUse net names family side old j code = seen.sound j code of le (ap (λ (t : List (List Bool)). flag t j code) (sym rows.seen) ∙ h) in
      record { row = u.row; set = rows.here u.row ∙ u.set; has = u.has; works = u.works };
  whole = λ j code of le u.
      ap (λ (t : List (List Bool)). flag t j code) rows.seen
      ∙ seen.whole j code of le (record { row = u.row; set = sym (rows.here u.row) ∙ u.set; has = u.has; works = u.works });
}

-- Values at other joints do not matter.
pub rests_same : (net : Net) (names : Names) (old now : Family) (side : ℕ) (rows : Rows)
    → ((j : ℕ) (v : JointValue) → j < length net.joints → AtSide net j side → now j v ≡ old j v) → IsAtRest net names old side rows → IsAtRest net names now side rows
rests_same net names old now side rows same r = record {
  sifted = record {
    works = λ row w. r.sifted.works row (works_more net names now old side row (λ j v lt at h. sym (same j v lt at) ∙ h) w);
    only = λ row h. works_more net names old now side row (λ j v lt at x. same j v lt at ∙ x) (r.sifted.only row h);
    noted = r.sifted.noted;
  };
  settled = settled_same net names side old now same r.settled;
}

-- A side stays at rest where a joint lost no value with flow and it could do without some rows.
pub rests_spared : (net : Net) → IsWired net → (names : Names) (joint side : ℕ) (old now : List (List Bool)) (loss : Loss) (before after : Rows) → IsJointOf net side joint
    → IsCut joint old now loss → loss.flow ≡ false → IsSpared net (family_of now) side joint before after
    → IsAtRest net names (family_of old) side before → IsAtRest net names (family_of now) side after
rests_spared net wired names joint side old now loss before after of cut still spared r =
    record {
      sifted = stays_sifted net wired names (family_of old) (family_of now) side joint before after of less flows elsewhere r.sifted r.settled spared;
      settled = stays_settled net wired names (family_of old) (family_of now) side joint before after of less flows elsewhere r.sifted r.settled spared;
    }
  where
    less : (i : ℕ) (v : JointValue) → family_of now i v ≡ true → family_of old i v ≡ true
    less i v h = cut.less i (code_of v) h

    flows : (i n : ℕ) → i < length net.joints → AtSide net i side → family_of now i (Flow n) ≡ family_of old i (Flow n)
    flows i n lt at = elim (cases_eq i joint) [
      | inl e ↦ subst (λ (k : ℕ). flag now k (n + 4) ≡ flag old k (n + 4)) (sym e) (cut.flows still (n + 4) (omega arith))
      | inr ne ↦ cut.elsewhere i (n + 4) ne
    ]

    elsewhere : (i : ℕ) (v : JointValue) → i < length net.joints → AtSide net i side → i ≢ joint → family_of now i v ≡ family_of old i v
    elsewhere i v lt at ne = cut.elsewhere i (code_of v) ne

-- Waking a side leaves another as it was.
pub rows_woken : (net : Net) (family : Family) (before after : Rows) (waiting then : WaitingSides) (side other joint : ℕ) (lost : Bool) → IsAwakeOrStays net family before after waiting then other joint lost
    → other ≢ side → OtherRowsMayGo side before after
rows_woken net family before after waiting then side other joint lost (inl woken) apart = subst (λ (r : Rows). OtherRowsMayGo side before r) (sym woken.1)
    (record { here = λ row. refl; less = λ s row h. h; notes = refl; seen = refl })
rows_woken net family before after waiting then side other joint lost (inr stays) apart =
    let spared : IsSpared net family other joint before after = stays.3 in
    record {
      here = λ row. spared.others.flags side row (λ e. apart (sym e));
      less = λ s row h. elim (cases_eq s other) [
        | inl e ↦ subst (λ (k : ℕ). flag before.live k row ≡ true) (sym e) (spared.others.less row (subst (λ (k : ℕ). flag after.live k row ≡ true) e h))
        | inr off ↦ sym (spared.others.flags s row off) ∙ h
      ];
      notes = spared.notes;
      seen = spared.seen;
    }

-- The two sides of a joint are not one.
pub other_apart : (net : Net) → IsWired net → (joint side other : ℕ) → joint < length net.joints → ((t : ℕ) → AtSide net joint t → (t ≡ side) ⊎ (t ≡ other)) → other ≢ side
other_apart net wired joint side other lt two e =
    let is_side : (t : ℕ) → AtSide net joint t → t ≡ side = λ t at. elim (two t at) [ inl x ↦ x | inr x ↦ x ∙ e ] in
    wired.apart joint no_joint lt (is_side (giver_side net joint) (inl refl) ∙ sym (is_side (taker_side net joint) (inr refl)))
