-- Whether a value is used at a side is decided.
use Rattle.std.proofs.Common.{◌≡◌, ◌⊎◌, inl, inr, ℕ, zero, suc, ◌<◌, List, true, false, Option, Some, None, length, get_or, refl, ap, sym, ◌∙◌, subst, arith}
use Rattle.std.specs.Prelude.{Contains}
use Rattle.std.proofs.lemmas.Bool.{cases_eq, cases_lt, cases_Bool}
use Rattle.std.proofs.lemmas.List.{get_or_default}
use Rattle.reo_values.specs.declared.value.Value.{Value}
use Rattle.reo_net_base.specs.declared.mark.Mark.TheVariants.{F}
use Rattle.reo_net_base.specs.declared.joint.End.{End}
use Rattle.reo_net_base.specs.Net.{Net, Side, all_sides, no_side, row_count}
use Rattle.reo_net_base.specs.Sides.{side_count}
use Rattle.reo_net_base.specs.Wired.{IsWired}
use Rattle.reo_net_laws.specs.Ends.{mark_in, IsRowOf}
use Rattle.reo_joint_values.specs.declared.value.JointValue.{JointValue}
use Rattle.reo_joint_values.specs.declared.value.JointValue.TheVariants.{RG}
use Rattle.reo_joint_values.specs.Values.{giver_mark, taker_mark, value_eq, Names, Choice, Family, item_named, joint_of, giver_side, taker_side, AtSide}
use Rattle.reo_joint_values.specs.Fitting.{given_in, passes_in, GivesValue, TakesValue, Fits, IsFrom}
use Rattle.reo_joint_values.specs.Supported.{IsUsed}
use Rattle.reo_joint_values.proofs.Fitting.{fits_local}
use Rattle.reo_joint_values.proofs.Narrowing.{value_same, same_value, at_cases}
use Rattle.reo_joint_values.proofs.Changing.{chosen_at, chosen_here, chosen_other, HasChoice}
use Rattle.reo_weights.specs.Weights.{all_values}
use Rattle.reo_weights.proofs.Decisions.{IsDecided, both_decided, given_decided, same_decided, true_decided, each_decided, some_decided, some_in, marks_decided, options_decided}
use Rattle.reo_weights.proofs.EqualItems.{items_decided}
use Rattle.reo_weights.proofs.Listings.{HasList}
use Rattle.reo_weights.proofs.MoveLemmas.{same_fits, value_there, there_same}

-- Whether two values are one is decided.
pub values_decided : (v w : JointValue) → IsDecided (v ≡ w)
values_decided v w = elim (cases_Bool (value_eq v w)) [
  | inl same ↦ inl (same_value v w same)
  | inr other ↦ inr (λ e. let wrong : true ≡ false = sym (value_same v) ∙ ap (value_eq v) e ∙ other in cc)
]

-- Choices that agree before a joint, with one value there, agree up to it.
agree_more : (c e : Choice) (n : ℕ) (v w : JointValue) → ((i : ℕ) → i < n → c i ≡ e i) → v ≡ w → (i : ℕ) → i < suc n → chosen_at c n v i ≡ chosen_at e n w i
agree_more c e n v w agree same i lt = elim (cases_eq i n) [
  | inl here ↦ chosen_here c n v i here ∙ same ∙ sym (chosen_here e n w i here)
  | inr other ↦ chosen_other c n v i other ∙ agree i (omega (arith, lt, other)) ∙ sym (chosen_other e n w i other)
]

-- Whether there is one is decided, if it is of each, and only the values at these joints tell.
choice_decided : (values : ℕ → List JointValue) (n : ℕ) (holds : Choice → Type 0) → ((c : Choice) → IsDecided (holds c)) → ((c e : Choice) → ((i : ℕ) → i < n → c i ≡ e i) → holds c → holds e) → IsDecided (HasChoice values n holds)
choice_decided values zero holds d same =
    let none : Choice = λ i. RG in
    elim (d none) [
      | inl is ↦ inl (none, λ i lt. absurd (omega arith), is)
      | inr fails ↦ inr (λ h. fails (same h.0 none (λ i lt. absurd (omega arith)) h.2))
    ]
choice_decided values (suc n) holds d same =
    let with : JointValue → Choice → Type 0 = λ w c. holds (chosen_at c n w) in
    elim (some_in (λ (w : JointValue). HasChoice values n (with w)) (λ w. choice_decided values n (with w) (λ c. d (chosen_at c n w)) (λ c e agree h. same (chosen_at c n w) (chosen_at e n w) (agree_more c e n w w agree refl) h)) (values n)) [
      | inl some ↦
          let w : JointValue = some.0 in
          let c : Choice = some.2.0 in
          inl (
            chosen_at c n w,
            λ i lt. elim (cases_eq i n) [
              | inl here ↦ subst (λ (v : JointValue). Contains (values i) v) (sym (chosen_here c n w i here)) (subst (λ (k : ℕ). Contains (values k) w) (sym here) some.1)
              | inr other ↦ subst (λ (v : JointValue). Contains (values i) v) (sym (chosen_other c n w i other)) (some.2.1 i (omega (arith, lt, other)))
            ],
            some.2.2,
          )
      | inr none ↦ inr (λ h. none (
        h.0 n,
        h.1 n (omega arith),
        (
          h.0,
          λ i lt. h.1 i (omega (arith, lt)),
          same h.0 (chosen_at h.0 n (h.0 n)) (λ i lt. elim (cases_eq i n) [
            | inl here ↦ ap h.0 here ∙ sym (chosen_here h.0 n (h.0 n) i here)
            | inr other ↦ sym (chosen_other h.0 n (h.0 n) i other)
          ]) h.2,
        ),
      ))
    ]

module _ (net : Net) (names : Names) where
  gives_decided : (c : Choice) (row : ℕ) (e : End) (j : ℕ) (v : JointValue) → IsDecided (GivesValue net names c row e j v)
  gives_decided c row e j v =
      same_decided (λ h. record { mark = h.0; item = h.1 }) (λ g. (g.mark, g.item))
      (both_decided (marks_decided (giver_mark v) (mark_in net row e)) (given_decided (marks_decided (giver_mark v) F) (λ flows. options_decided items_decided (given_in net names c row e) (item_named names j v))))

  lets_in_decided : (row : ℕ) (e : End) (o : Option Value) → IsDecided ((item : Value) → o ≡ Some item → passes_in net row e item ≡ true)
  lets_in_decided row e None = inl (λ item is. let wrong : None ≡ Some item = is in absurd cc)
  lets_in_decided row e (Some x) =
      same_decided
      (λ h item is. let same : Some x ≡ Some item = is in let equal : x ≡ item = cc in subst (λ (y : Value). passes_in net row e y ≡ true) equal h)
      (λ h. h x refl) (true_decided (passes_in net row e x))

  takes_decided : (row : ℕ) (e : End) (j : ℕ) (v : JointValue) → IsDecided (TakesValue net names row e j v)
  takes_decided row e j v =
      same_decided (λ h. record { mark = h.0; let_in = h.1 }) (λ t. (t.mark, t.let_in))
      (both_decided (marks_decided (taker_mark v) (mark_in net row e)) (lets_in_decided row e (item_named names j v)))

  -- How many rows a side has.
  abbrev rows_at : ℕ → ℕ
  rows_at side = row_count (get_or (all_sides net.primitives) side no_side)

  in_table_decided : (side row : ℕ) → side < side_count net → IsDecided (IsRowOf net side row)
  in_table_decided side row side_in = elim (cases_lt row (rows_at side)) [
    | inl lt ↦ inl (λ d. subst (λ (s : Side). row < row_count s) (get_or_default (all_sides net.primitives) side no_side d side_in) lt)
    | inr le ↦ inr (λ h. omega (arith, le, h no_side))
  ]

  fits_decided : (c : Choice) (side row : ℕ) → side < side_count net → IsDecided (Fits net names c side row)
  fits_decided c side row side_in =
      same_decided (λ h. record { in_table = h.0; gives = h.1.0; takes = h.1.1 }) (λ f. (f.in_table, (f.gives, f.takes)))
      (both_decided (in_table_decided side row side_in) (both_decided
      (each_decided (λ (j : ℕ). giver_side net j ≡ side → GivesValue net names c row (joint_of net j).giver j (c j)) (length net.joints) (λ j lt. given_decided (cases_eq (giver_side net j) side) (λ at. gives_decided c row (joint_of net j).giver j (c j))))
      (each_decided (λ (j : ℕ). taker_side net j ≡ side → TakesValue net names row (joint_of net j).taker j (c j)) (length net.joints) (λ j lt. given_decided (cases_eq (taker_side net j) side) (λ at. takes_decided row (joint_of net j).taker j (c j))))))

  from_decided : (family : Family) (c : Choice) (side : ℕ) → IsDecided (IsFrom net family c side)
  from_decided family c side = each_decided (λ (j : ℕ). AtSide net j side → family j (c j) ≡ true) (length net.joints) (λ j lt. given_decided (at_cases net j side) (λ at. true_decided (family j (c j))))

  module _ (wired : IsWired net) (values : (j : ℕ) → HasList (λ (v : JointValue). all_values names j v ≡ true)) (family : Family)
      (less : (i : ℕ) (v : JointValue) → family i v ≡ true → all_values names i v ≡ true) (side j : ℕ) (v : JointValue) (side_in : side < side_count net) (j_in : j < length net.joints) (at : AtSide net j side) where
    -- A choice by which a row uses the value.
    abbrev Uses : ℕ → Choice → Type 0
    Uses row c = Fits net names c side row × ((c j ≡ v) × IsFrom net family c side)

    uses_decided : (row : ℕ) (c : Choice) → IsDecided (Uses row c)
    uses_decided row c = both_decided (fits_decided c side row side_in) (both_decided (values_decided (c j) v) (from_decided family c side))

    uses_same : (row : ℕ) (c e : Choice) → ((i : ℕ) → i < length net.joints → c i ≡ e i) → Uses row c → Uses row e
    uses_same row c e agree h = (
      same_fits net names names c e (λ i lt. ap (item_named names i) (agree i lt)) side row (λ i lt i_at. (ap giver_mark (agree i lt), ap taker_mark (agree i lt))) h.0,
      (sym (agree j j_in) ∙ h.1.0, λ i lt i_at. ap (family i) (sym (agree i lt)) ∙ h.1.1 i lt i_at),
    )

    whole_there : (i : ℕ) (w : JointValue) (x : AtSide net i side ⊎ (AtSide net i side → ⊥)) → (AtSide net i side → all_values names i w ≡ true) → all_values names i (value_there x w) ≡ true
    whole_there i w (inl here) whole = whole here
    whole_there i w (inr elsewhere) whole = refl

    -- A value that is used is used by a choice from the lists.
    listed_use : (u : IsUsed net names family side j v) → HasChoice (λ i. (values i).list) (length net.joints) (Uses u.row)
    listed_use u =
        let local : Choice = λ i. value_there (at_cases net i side) (u.choice i) in
        let same : (i : ℕ) → i < length net.joints → AtSide net i side → u.choice i ≡ local i = λ i i_in i_at. there_same (at_cases net i side) i_at (u.choice i) in (
          local,
          λ i i_in. ((values i).exact (local i)).1 (whole_there i (u.choice i) (at_cases net i side) (λ i_at. less i (u.choice i) (u.from i i_in i_at))),
          (fits_local net wired names u.choice local side u.row same u.fits, (sym (same j j_in at) ∙ u.chosen, λ i i_in i_at. ap (family i) (sym (same i i_in i_at)) ∙ u.from i i_in i_at)),
        )

    -- Whether some row uses the value is decided.
    pub used_decided : IsDecided (IsUsed net names family side j v)
    used_decided =
        same_decided (λ h. record { row = h.0; choice = h.2.0; fits = h.2.2.0; chosen = h.2.2.1.0; from = h.2.2.1.1 }) (λ u. (u.row, u.fits.in_table no_side, listed_use u))
        (some_decided (λ (row : ℕ). HasChoice (λ i. (values i).list) (length net.joints) (Uses row)) (rows_at side) (λ row lt.
        choice_decided (λ i. (values i).list) (length net.joints) (Uses row) (uses_decided row) (uses_same row)))
