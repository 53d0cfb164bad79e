-- A row works, joint by joint, exactly where it fits values of the family, and a value is used exactly where some row works and the value goes with it.
use Rattle.std.proofs.Common.{◌≡◌, ◌≢◌, inl, inr, ℕ, ◌<◌, true, cond, length, Option, None, refl, ap, sym, ◌∙◌, subst, arith}
use Rattle.std.specs.Bool.{◌==◌}
use Rattle.std.proofs.lemmas.Bool.{cases_eq, cond-true, cond-false, eq-eqb, ne_eqb, cases_lt}
use Rattle.reo_values.specs.declared.value.Value.{Value}
use Rattle.reo_net_base.specs.Net.{Net}
use Rattle.reo_net_base.specs.Wired.{IsWired}
use Rattle.reo_net_laws.specs.Ends.{IsRowOf}
use Rattle.reo_joint_values.specs.declared.value.JointValue.{JointValue}
use Rattle.reo_joint_values.specs.declared.value.JointValue.TheVariants.{Jam}
use Rattle.reo_joint_values.specs.Values.{Names, Choice, Family, item_named, no_joint, joint_of, giver_side, taker_side, AtSide}
use Rattle.reo_joint_values.specs.Fitting.{given_for, GivesValue, TakesValue, Fits, IsFrom}
use Rattle.reo_joint_values.specs.Supported.{IsUsed}
use Rattle.reo_joint_values.specs.Works.{Follows, IsDependent, IsGivenAs, IsGivenIn, TakerWorks, RowWorks, ValueWorks}
use Rattle.reo_joint_values.proofs.Fitting.{decided, follows_dependent, given_by_state, given_by_joint, as_given, is_given}
use Rattle.reo_joint_values.proofs.Fitting.Decided.{by_none, by_joint}

-- One value in the place of another.
abbrev with_value : ℕ → JointValue → Choice → Choice
with_value j v c k = cond (k == j) v (c k)

with_same : (j : ℕ) (v : JointValue) (c : Choice) (k : ℕ) → k ≡ j → with_value j v c k ≡ v
with_same j v c k e = cond-true (k == j) v (c k) (eq-eqb k j e)

with_other : (j : ℕ) (v : JointValue) (c : Choice) (k : ℕ) → k ≢ j → with_value j v c k ≡ c k
with_other j v c k other = cond-false (k == j) v (c k) (ne_eqb k j other)

-- A row with values of a family.
pub record Possible (net : Net) (names : Names) (family : Family) (side row : ℕ) : Type 0 where
  pub choice : Choice
  pub fits : Fits net names choice side row
  pub from : IsFrom net family choice side

-- A value that a row may give at a joint, with the values that are taken in.
pub record Given (net : Net) (names : Names) (family : Family) (row : ℕ) (taken : Choice) (k : ℕ) (v : JointValue) : Type 0 where
  pub has : family k v ≡ true
  pub alone : (IsDependent net row k → ⊥) → IsGivenAs net names row k None v
  pub after : (j : ℕ) → j < length net.joints → Follows net row k j → IsGivenAs net names row k (item_named names j (taken j)) v

-- More values, more that works.
module _ (net : Net) (names : Names) (a b : Family) (side row : ℕ) (more : (j : ℕ) (v : JointValue) → j < length net.joints → AtSide net j side → a j v ≡ true → b j v ≡ true) where
  given_more : (k : ℕ) (taken : Option Value) → k < length net.joints → giver_side net k ≡ side → IsGivenIn net names a row k taken → IsGivenIn net names b row k taken
  given_more k taken lt at g = record { value = g.value; has = more k g.value lt (inl at) g.has; given = g.given }

  pub taker_more : (j : ℕ) (v : JointValue) → j < length net.joints → taker_side net j ≡ side → TakerWorks net names a side row j v → TakerWorks net names b side row j v
  taker_more j v lt at t = record {
    has = more j v lt (inr at) t.has;
    takes = t.takes;
    rest = λ k k_in k_at follows. given_more k (item_named names j v) k_in k_at (t.rest k k_in k_at follows);
  }

  pub works_more : RowWorks net names a side row → RowWorks net names b side row
  works_more works = record {
    in_table = works.in_table;
    joints = λ j lt. record {
      taker = λ at. let t = (works.joints j lt).taker at in record { value = t.value; works = taker_more j t.value lt at t.works };
      giver = λ at never. given_more j None lt at ((works.joints j lt).giver at never);
    };
  }

module _ (net : Net) (wired : IsWired net) (names : Names) (family : Family) (side row : ℕ) where
  -- What fits works.
  module _ (c : Choice) (fits : Fits net names c side row) (from : IsFrom net family c side) where
    given_alone : (k : ℕ) → k < length net.joints → giver_side net k ≡ side → (IsDependent net row k → ⊥) → IsGivenAs net names row k None (c k)
    given_alone k lt at never = as_given net names c row k None (λ flows. (given_by_state net wired names c row k never flows).1) (c k) (fits.gives k lt at)

    given_after : (k j : ℕ) → k < length net.joints → giver_side net k ≡ side → j < length net.joints → Follows net row k j → IsGivenAs net names row k (item_named names j (c j)) (c k)
    given_after k j lt at j_in follows = as_given net names c row k (item_named names j (c j)) (λ _. given_by_joint net wired names c row k j j_in follows) (c k) (fits.gives k lt at)

    taker_works : (j : ℕ) → j < length net.joints → taker_side net j ≡ side → TakerWorks net names family side row j (c j)
    taker_works j lt at = record {
      has = from j lt (inr at);
      takes = fits.takes j lt at;
      rest = λ k k_in k_at follows. record { value = c k; has = from k k_in (inl k_at); given = given_after k j k_in k_at lt follows };
    }

    pub fits_works : RowWorks net names family side row
    fits_works = record {
      in_table = fits.in_table;
      joints = λ j lt. record {
        taker = λ at. record { value = c j; works = taker_works j lt at };
        giver = λ at never. record { value = c j; has = from j lt (inl at); given = given_alone j lt at never };
      };
    }

    -- Each value goes with the row.
    value_works : (j : ℕ) → j < length net.joints → ValueWorks net names family side row j (c j)
    value_works j lt = record {
      taker = λ at. taker_works j lt at;
      giver = λ at. record {
        mark = (fits.gives j lt at).mark;
        alone = λ never. given_alone j lt at never;
        after = λ i i_in i_at follows. (c i, taker_works i i_in i_at, given_after j i lt at i_in follows);
      };
    }

  -- What works fits: values taken in, and values given for them.
  abbrev pub AreTaken : Choice → Type 0
  AreTaken taken = (j : ℕ) → j < length net.joints → taker_side net j ≡ side → TakerWorks net names family side row j (taken j)

  abbrev pub AreGiven : Choice → Choice → Type 0
  AreGiven taken given = (k : ℕ) → k < length net.joints → giver_side net k ≡ side → Given net names family row taken k (given k)

  module _ (in_table : IsRowOf net side row) (taken given : Choice) (are_taken : AreTaken taken) (are_given : AreGiven taken given) where
    pub together : Choice
    together k = cond (taker_side net k == side) (taken k) (given k)

    pub together_taken : (k : ℕ) → taker_side net k ≡ side → together k ≡ taken k
    unfolding together
    together_taken k at = cond-true (taker_side net k == side) (taken k) (given k) (eq-eqb (taker_side net k) side at)

    pub together_given : (k : ℕ) → k < length net.joints → giver_side net k ≡ side → together k ≡ given k
    unfolding together
    together_given k lt at =
        cond-false (taker_side net k == side) (taken k) (given k)
        (ne_eqb (taker_side net k) side (λ e. wired.apart k no_joint lt (at ∙ sym e)))

    fits_given : (k : ℕ) → k < length net.joints → giver_side net k ≡ side → GivesValue net names together row (joint_of net k).giver k (given k)
    fits_given k lt at = elim (decided net wired side row k lt at in_table) [
      | by_none never ↦ is_given net names together row k None (λ flows. (given_by_state net wired names together row k never flows).1) (given k) ((are_given k lt at).alone never)
      | by_joint j j_in j_at follows flows only ↦
          is_given net names together row k (item_named names j (taken j))
          (λ _. given_by_joint net wired names together row k j j_in follows ∙ ap (λ v. given_for net row (joint_of net k).giver (item_named names j v)) (together_taken j j_at))
          (given k) ((are_given k lt at).after j j_in follows)
    ]

    fits_together : Fits net names together side row
    fits_together = record {
      in_table = in_table;
      gives = λ k lt at. subst (λ v. GivesValue net names together row (joint_of net k).giver k v) (sym (together_given k lt at)) (fits_given k lt at);
      takes = λ j lt at. subst (λ v. TakesValue net names row (joint_of net j).taker j v) (sym (together_taken j at)) (are_taken j lt at).takes;
    }

    from_together : IsFrom net family together side
    from_together k lt (inl at) = subst (λ v. family k v ≡ true) (sym (together_given k lt at)) (are_given k lt at).has
    from_together k lt (inr at) = subst (λ v. family k v ≡ true) (sym (together_taken k at)) (are_taken k lt at).has

    pub possible : Possible net names family side row
    possible = record { choice = together; fits = fits_together; from = from_together }

  -- Values for a row that works.
  module _ (works : RowWorks net names family side row) where
    record Taken (j : ℕ) : Type 0 where
      value : JointValue
      good : j < length net.joints → taker_side net j ≡ side → TakerWorks net names family side row j value

    some_taken : (j : ℕ) → Taken j
    some_taken j = elim (cases_lt j (length net.joints)) [
      | inl lt ↦ elim (cases_eq (taker_side net j) side) [
        | inl at ↦ let t = (works.joints j lt).taker at in record { value = t.value; good = λ x y. t.works }
        | inr off ↦ record { value = Jam; good = λ x y. absurd (off y) }
      ]
      | inr out ↦ record { value = Jam; good = λ x y. absurd (omega arith) }
    ]

    pub taken : Choice
    taken j = (some_taken j).value

    pub are_taken : AreTaken taken
    unfolding taken
    are_taken j = (some_taken j).good

    module _ (with : Choice) (are_with : AreTaken with) where
      record Answer (k : ℕ) : Type 0 where
        value : JointValue
        good : k < length net.joints → giver_side net k ≡ side → Given net names family row with k value

      some_given : (k : ℕ) → Answer k
      some_given k = elim (cases_lt k (length net.joints)) [
        | inl lt ↦ elim (cases_eq (giver_side net k) side) [
          | inl at ↦ given_at k lt at
          | inr off ↦ record { value = Jam; good = λ x y. absurd (off y) }
        ]
        | inr out ↦ record { value = Jam; good = λ x y. absurd (omega arith) }
      ]
        where
          given_at : (k : ℕ) → k < length net.joints → giver_side net k ≡ side → Answer k
          given_at k lt at = elim (decided net wired side row k lt at works.in_table) [
            | by_none never ↦
                let g = (works.joints k lt).giver at never in
                record {
                  value = g.value;
                  good = λ x y. record { has = g.has; alone = λ z. g.given; after = λ i i_in f. absurd (never (follows_dependent net row k i f)) };
                }
            | by_joint j j_in j_at follows flows only ↦
                let g = (are_with j j_in j_at).rest k lt at follows in
                record {
                  value = g.value;
                  good = λ x y. record {
                    has = g.has;
                    alone = λ never. absurd (never (follows_dependent net row k j follows));
                    after = λ i i_in f. subst (λ (m : ℕ). IsGivenAs net names row k (item_named names m (with m)) g.value) (sym (only i i_in f)) g.given;
                  };
                }
          ]

      pub given : Choice
      given k = (some_given k).value

      pub are_given : AreGiven with given
      unfolding given
      are_given k = (some_given k).good

    pub works_possible : Possible net names family side row
    works_possible = possible works.in_table taken (given taken are_taken) are_taken (are_given taken are_taken)

  -- One more value for what is taken in, or given.
  pub more_taken : (c : Choice) (j : ℕ) (v : JointValue) → AreTaken c → TakerWorks net names family side row j v → AreTaken (with_value j v c)
  more_taken c j v are works k lt at = elim (cases_eq k j) [
    | inl e ↦
        let here : TakerWorks net names family side row k v = subst (λ (m : ℕ). TakerWorks net names family side row m v) (sym e) works in
        subst (λ w. TakerWorks net names family side row k w) (sym (with_same j v c k e)) here
    | inr other ↦ subst (λ w. TakerWorks net names family side row k w) (sym (with_other j v c k other)) (are k lt at)
  ]

  pub more_given : (c d : Choice) (j : ℕ) (v : JointValue) → AreGiven c d → Given net names family row c j v → AreGiven c (with_value j v d)
  more_given c d j v are given k lt at = elim (cases_eq k j) [
    | inl e ↦
        let here : Given net names family row c k v = subst (λ (m : ℕ). Given net names family row c m v) (sym e) given in
        subst (λ w. Given net names family row c k w) (sym (with_same j v d k e)) here
    | inr other ↦ subst (λ w. Given net names family row c k w) (sym (with_other j v d k other)) (are k lt at)
  ]

-- A value is used exactly where some row works and the value goes with it.
module _ (net : Net) (wired : IsWired net) (names : Names) (family : Family) (side j : ℕ) (v : JointValue) (j_in : j < length net.joints) (at : AtSide net j side) where
  pub used_row : (u : IsUsed net names family side j v) → RowWorks net names family side u.row
  used_row u = fits_works net wired names family side u.row u.choice u.fits u.from

  pub used_value : (u : IsUsed net names family side j v) → ValueWorks net names family side u.row j v
  used_value u = subst (λ w. ValueWorks net names family side u.row j w) u.chosen (value_works net wired names family side u.row u.choice u.fits u.from j j_in)

  module _ (row : ℕ) (has : family j v ≡ true) (works : RowWorks net names family side row) (goes : ValueWorks net names family side row j v) where
    used_by : (p : Possible net names family side row) → p.choice j ≡ v → IsUsed net names family side j v
    used_by p is = record { row = row; choice = p.choice; fits = p.fits; chosen = is; from = p.from }

    used_taken : taker_side net j ≡ side → IsUsed net names family side j v
    unfolding possible
    used_taken t_at =
        let c : Choice = with_value j v (taken net wired names family side row works) in
        let are = more_taken net wired names family side row (taken net wired names family side row works) j v (are_taken net wired names family side row works) (goes.taker t_at) in
        let d : Choice = given net wired names family side row works c are in
        used_by (possible net wired names family side row works.in_table c d are (are_given net wired names family side row works c are))
        (together_taken net wired names family side row works.in_table c d are (are_given net wired names family side row works c are) j t_at ∙ with_same j v (taken net wired names family side row works) j refl)

    -- With these values taken in.
    used_given : giver_side net j ≡ side → (c : Choice) → AreTaken net wired names family side row c → Given net names family row c j v → IsUsed net names family side j v
    unfolding possible
    used_given g_at c are g =
        let d : Choice = given net wired names family side row works c are in
        let e : Choice = with_value j v d in
        let are_e = more_given net wired names family side row c d j v (are_given net wired names family side row works c are) g in
        used_by (possible net wired names family side row works.in_table c e are are_e)
        (together_given net wired names family side row works.in_table c e are are_e j j_in g_at ∙ with_same j v d j refl)

    used_giver : giver_side net j ≡ side → IsUsed net names family side j v
    used_giver g_at =
        let uses = goes.giver g_at in
        let c : Choice = taken net wired names family side row works in
        let are = are_taken net wired names family side row works in
        elim (decided net wired side row j j_in g_at works.in_table) [
          | by_none never ↦ used_given g_at c are (record { has = has; alone = uses.alone; after = λ i i_in f. absurd (never (follows_dependent net row j i f)) })
          | by_joint i i_in i_at follows flows only ↦
              let t = uses.after i i_in i_at follows in
              used_given g_at (with_value i t.0 c) (more_taken net wired names family side row c i t.0 are t.1) (record {
                has = has;
                alone = λ never. absurd (never (follows_dependent net row j i follows));
                after = λ m m_in f.
                    let m_is : m ≡ i = only m m_in f in
                    let value : with_value i t.0 c m ≡ t.0 = with_same i t.0 c m m_is in
                    let here : IsGivenAs net names row j (item_named names m t.0) v = subst (λ (n : ℕ). IsGivenAs net names row j (item_named names n t.0) v) (sym m_is) t.2 in
                    subst (λ w. IsGivenAs net names row j (item_named names m w) v) (sym value) here;
              })
        ]

  pub value_used : (row : ℕ) → family j v ≡ true → RowWorks net names family side row → ValueWorks net names family side row j v → IsUsed net names family side j v
  value_used row has works goes = elim at [ inl g_at ↦ used_giver row has works goes g_at | inr t_at ↦ used_taken row has works goes t_at ]
