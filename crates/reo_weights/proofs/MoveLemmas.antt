-- Values by two namings of the items that can stand at the joints of a set of sides.
use Rattle.std.proofs.Common.{◌≡◌, ◌⊎◌, inl, inr, ℕ, ◌<◌, List, Bool, true, false, length, Option, Some, None, refl, ap, sym, ◌∙◌, arith}
use Rattle.std.specs.Prelude.{◌&&◌}
use Rattle.std.specs.Option.{is_some, option_and_then}
use Rattle.std.proofs.lemmas.Bool.{cases_Bool, cases_lt, and_from, and_parts}
use Rattle.std.proofs.lemmas.List.{same_lists}
use Rattle.std.proofs.lemmas.List.FromFn.{get_or-map-range_with_len}
use Rattle.reo_values.specs.declared.value.Value.{Value}
use Rattle.reo_net_base.specs.declared.joint.End.{End}
use Rattle.reo_net_base.specs.Net.{Net, end_of, side_at}
use Rattle.reo_net_base.specs.Colouring.{taken_at}
use Rattle.reo_net_base.specs.Wired.{IsWired}
use Rattle.reo_net_laws.specs.Ends.{from_in}
use Rattle.reo_net_laws.specs.Parts.{IsClosed}
use Rattle.reo_joint_values.specs.Standing.{giver_of}
use Rattle.reo_joint_values.specs.Many.{IsJointIn}
use Rattle.reo_joint_values.specs.declared.value.JointValue.{JointValue}
use Rattle.reo_joint_values.specs.declared.value.JointValue.TheVariants.{Flow, RG, GR, GG, Jam}
use Rattle.reo_joint_values.specs.Values.{giver_mark, taker_mark, Names, Choice, Family, item_named, items_of, no_joint, joint_of, giver_side, AtSide}
use Rattle.reo_joint_values.specs.Fitting.{given_for, given_in, Fits}
use Rattle.reo_joint_values.specs.Supported.{IsUsed, IsWithin, IsInGreatest}
use Rattle.reo_joint_values.proofs.Fitting.{items_count, fits_local}
use Rattle.reo_joint_values.proofs.Narrowing.{at_cases}
use Rattle.reo_weights.specs.Weights.{AreNamed, all_values}

-- Choices by two namings, with the same items.
module _ (net : Net) (a b : Names) (c d : Choice) (item : (i : ℕ) → i < length net.joints → item_named a i (c i) ≡ item_named b i (d i)) where
  same_items : items_of net a c ≡ items_of net b d
  same_items =
      let count = items_count net a c in
      same_lists (items_of net a c) (items_of net b d) (count ∙ sym (items_count net b d)) (λ k e lt.
      let k_in : k < length net.joints = omega (arith, count, lt) in
      get_or-map-range_with_len {X = Option Value} (λ j. item_named a j (c j)) 0 (length net.joints) k k e k_in (omega arith)
      ∙ item k k_in ∙ sym (get_or-map-range_with_len {X = Option Value} (λ j. item_named b j (d j)) 0 (length net.joints) k k e k_in (omega arith)))

  same_given : (row : ℕ) (e : End) → given_in net a c row e ≡ given_in net b d row e
  unfolding given_in
  same_given row e = ap (λ (items : List (Option Value)). given_for net row e (option_and_then (λ from. taken_at net.joints items (end_of e.primitive from)) (from_in net row e))) same_items

  -- A row that fits the one fits the other, if their marks are the same at its side.
  pub same_fits : (side row : ℕ) → ((i : ℕ) → i < length net.joints → AtSide net i side → (giver_mark (c i) ≡ giver_mark (d i)) × (taker_mark (c i) ≡ taker_mark (d i)))
      → Fits net a c side row → Fits net b d side row
  same_fits side row marks fits = record {
    in_table = fits.in_table;
    gives = λ j lt at.
        let g = fits.gives j lt at in
        let m = marks j lt (inl at) in
        record { mark = sym m.0 ∙ g.mark; item = λ flows. sym (same_given row (joint_of net j).giver) ∙ g.item (m.0 ∙ flows) ∙ item j lt };
    takes = λ j lt at.
        let t = fits.takes j lt at in
        let m = marks j lt (inr at) in
        record { mark = sym m.1 ∙ t.mark; let_in = λ x h. t.let_in x (item j lt ∙ h) };
  }

-- A value where something holds, and elsewhere one without an item.
abbrev pub value_there : {A B : Type 0} → A ⊎ B → JointValue → JointValue
value_there (inl here) v = v
value_there (inr elsewhere) v = RG

-- Where it holds that is the value itself.
pub there_same : {A : Type 0} → (x : A ⊎ (A → ⊥)) → A → (v : JointValue) → v ≡ value_there x v
there_same (inl here) h v = refl
there_same (inr elsewhere) h v = absurd (elsewhere h)

module _ (net : Net) (inside : ℕ → Bool) where
  -- Whether a joint starts in the set is decided.
  pub joint_cases : (j : ℕ) → IsJointIn net inside j ⊎ (IsJointIn net inside j → ⊥)
  joint_cases j = elim (cases_lt j (length net.joints)) [
    | inr past ↦ inr (λ is. omega (arith, past, is.0))
    | inl lt ↦ elim (cases_Bool (inside (side_at net (giver_of net j)))) [
      | inl held ↦ inl (lt, held)
      | inr out ↦ inr (λ is. let wrong : false ≡ true = sym out ∙ is.1 in cc)
    ]
  ]

  -- A joint at a side of a closed set starts in the set.
  pub at_inside : IsClosed net inside → (j side : ℕ) → j < length net.joints → AtSide net j side → inside side ≡ true → IsJointIn net inside j
  at_inside closed j side lt (inl gives) is = (lt, ap inside gives ∙ is)
  at_inside closed j side lt (inr takes) is = (lt, closed.along j no_joint lt ∙ ap inside takes ∙ is)

  -- By the one naming, a value says what another says by the other.
  pub record IsMoved (a b : Names) (j : ℕ) (v w : JointValue) : Type 0 where
    pub item : item_named a j v ≡ item_named b j w
    pub giver : all_values a j v ≡ true → giver_mark v ≡ giver_mark w
    pub taker : all_values a j v ≡ true → taker_mark v ≡ taker_mark w
    pub whole : all_values b j w ≡ true

  -- Two values of one naming with the same item and marks are one.
  one_value : (a : Names) → AreNamed net inside a → (j : ℕ) → IsJointIn net inside j → (v w : JointValue) → item_named a j v ≡ item_named a j w
      → giver_mark v ≡ giver_mark w → taker_mark v ≡ taker_mark w → all_values a j v ≡ true → v ≡ w
  one_value a are j is (Flow m) (Flow n) item giver taker whole =
      ap Flow (elim (a j m) as (λ o. a j m ≡ o → m ≡ n) [
        | None ↦ λ e. let wrong : true ≡ false = sym whole ∙ ap is_some e in absurd cc
        | Some x ↦ λ e. are.once j m n x is e (sym item ∙ e)
      ] refl)
  one_value a are j is RG RG item giver taker whole = refl
  one_value a are j is GR GR item giver taker whole = refl
  one_value a are j is GG GG item giver taker whole = refl
  one_value a are j is Jam Jam item giver taker whole = refl
  one_value a are j is v w item giver taker whole = cc

  module _ (a b : Names) (a_are : AreNamed net inside a) (b_are : AreNamed net inside b) where
    -- The value of an item by the other naming.
    abbrev moved : (j : ℕ) → IsJointIn net inside j → (n : ℕ) (o : Option Value) → a j n ≡ o → JointValue
    moved j is n None e = RG
    moved j is n (Some item) e = Flow (b_are.whole j item is (a_are.sound j n item is e)).0

    moved_is : (j : ℕ) (is : IsJointIn net inside j) (n : ℕ) (o : Option Value) (e : a j n ≡ o) → IsMoved a b j (Flow n) (moved j is n o e)
    moved_is j is n None e = record {
      item = e;
      giver = λ h. let wrong : true ≡ false = sym h ∙ ap is_some e in absurd cc;
      taker = λ h. let wrong : true ≡ false = sym h ∙ ap is_some e in absurd cc;
      whole = refl;
    }
    moved_is j is n (Some item) e =
        let it = b_are.whole j item is (a_are.sound j n item is e) in
        record { item = e ∙ sym it.1; giver = λ h. refl; taker = λ h. refl; whole = ap is_some it.1 }

    abbrev move_by : (j : ℕ) → JointValue → IsJointIn net inside j ⊎ (IsJointIn net inside j → ⊥) → JointValue
    move_by j (Flow n) (inl is) = moved j is n (a j n) refl
    move_by j (Flow n) (inr out) = RG
    move_by j RG at = RG
    move_by j GR at = GR
    move_by j GG at = GG
    move_by j Jam at = Jam

    -- What a value is by the other naming.
    abbrev pub move : ℕ → JointValue → JointValue
    move j v = move_by j v (joint_cases j)

    move_is : (j : ℕ) (v : JointValue) → IsJointIn net inside j → (at : IsJointIn net inside j ⊎ (IsJointIn net inside j → ⊥)) → IsMoved a b j v (move_by j v at)
    move_is j (Flow n) is (inl here) = moved_is j here n (a j n) refl
    move_is j (Flow n) is (inr out) = absurd (out is)
    move_is j RG is at = record { item = refl; giver = λ h. refl; taker = λ h. refl; whole = refl }
    move_is j GR is at = record { item = refl; giver = λ h. refl; taker = λ h. refl; whole = refl }
    move_is j GG is at = record { item = refl; giver = λ h. refl; taker = λ h. refl; whole = refl }
    move_is j Jam is at = record { item = refl; giver = λ h. refl; taker = λ h. refl; whole = refl }

    -- It says the same.
    pub move_says : (j : ℕ) (v : JointValue) → IsJointIn net inside j → IsMoved a b j v (move j v)
    move_says j v is = move_is j v is (joint_cases j)

  -- There and back.
  pub move_back : (a b : Names) (a_are : AreNamed net inside a) (b_are : AreNamed net inside b) (j : ℕ) → IsJointIn net inside j → (v : JointValue) → all_values a j v ≡ true → move b a b_are a_are j (move a b a_are b_are j v) ≡ v
  move_back a b a_are b_are j is v whole =
      let w : JointValue = move a b a_are b_are j v in
      let there = move_says a b a_are b_are j v is in
      let back = move_says b a b_are a_are j w is in
      sym (one_value a a_are j is v (move b a b_are a_are j w) (there.item ∙ back.item) (there.giver whole ∙ back.giver there.whole) (there.taker whole ∙ back.taker there.whole) whole)

  module _ (wired : IsWired net) (closed : IsClosed net inside) (a b : Names) (a_are : AreNamed net inside a) (b_are : AreNamed net inside b) where
    -- A family by the other naming.
    abbrev moved_family : Family → Family
    moved_family family j w = all_values b j w && family j (move b a b_are a_are j w)

    module _ (family : Family) (within : IsWithin net inside family (all_values a)) where
      moved_used : (side j : ℕ) (w : JointValue) → inside side ≡ true → j < length net.joints → AtSide net j side → all_values b j w ≡ true → IsUsed net a family side j (move b a b_are a_are j w) → IsUsed net b (moved_family family) side j w
      moved_used side j w is lt at whole u =
          let local : Choice = λ i. value_there (at_cases net i side) (u.choice i) in
          let other : Choice = λ i. move a b a_are b_are i (local i) in
          let same : (i : ℕ) → i < length net.joints → AtSide net i side → u.choice i ≡ local i = λ i i_in i_at. there_same (at_cases net i side) i_at (u.choice i) in
          let has : (i : ℕ) → i < length net.joints → AtSide net i side → all_values a i (local i) ≡ true =
          λ i i_in i_at. ap (all_values a i) (sym (same i i_in i_at)) ∙ within i side (u.choice i) i_in i_at is (u.from i i_in i_at) in
          record {
            row = u.row;
            choice = other;
            fits = same_fits net a b local other (λ i i_in. item_there i side (u.choice i) i_in is (at_cases net i side)) side u.row (λ i i_in i_at.
                let says = move_says a b a_are b_are i (local i) (at_inside closed i side i_in i_at is) in
                (says.giver (has i i_in i_at), says.taker (has i i_in i_at))) (fits_local net wired a u.choice local side u.row same u.fits);
            chosen =
                ap (move a b a_are b_are j) (sym (same j lt at) ∙ u.chosen) ∙ move_back b a b_are a_are j (at_inside closed j side lt at is) w whole;
            from = λ i i_in i_at.
                let here = at_inside closed i side i_in i_at is in
                and_from (all_values b i (other i)) (family i (move b a b_are a_are i (other i))) (move_says a b a_are b_are i (local i) here).whole
                (ap (family i) (move_back a b a_are b_are i here (local i) (has i i_in i_at) ∙ sym (same i i_in i_at)) ∙ u.from i i_in i_at);
          }
        where
          item_there : (i side : ℕ) (v : JointValue) → i < length net.joints → inside side ≡ true → (x : AtSide net i side ⊎ (AtSide net i side → ⊥))
              → item_named a i (value_there x v) ≡ item_named b i (move a b a_are b_are i (value_there x v))
          item_there i side v i_in is (inl here) = (move_says a b a_are b_are i v (at_inside closed i side i_in here is)).item
          item_there i side v i_in is (inr elsewhere) = refl

    -- A value of the greatest supported family is one by the other naming too.
    pub greatest_moves : (j : ℕ) (v : JointValue) → IsJointIn net inside j → IsInGreatest net a inside (all_values a) j v → IsInGreatest net b inside (all_values b) j (move a b a_are b_are j v)
    greatest_moves j v is g =
        let whole = g.within j (giver_side net j) v is.0 (inl refl) is.1 g.has in
        record {
          family = moved_family g.family;
          within = λ i side w lt at side_is h. (and_parts (all_values b i w) (g.family i (move b a b_are a_are i w)) h).0;
          supported = λ side side_is i w lt at h.
              moved_used g.family g.within side i w side_is lt at ((and_parts (all_values b i w) (g.family i (move b a b_are a_are i w)) h).0)
              (g.supported side side_is i (move b a b_are a_are i w) lt at ((and_parts (all_values b i w) (g.family i (move b a b_are a_are i w)) h).1));
          has = and_from (all_values b j (move a b a_are b_are j v)) (g.family j (move b a b_are a_are j (move a b a_are b_are j v))) (move_says a b a_are b_are j v is).whole
              (ap (g.family j) (move_back a b a_are b_are j is v whole) ∙ g.has);
        }
