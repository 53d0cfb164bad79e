-- Which values have support can be told.
use Rattle.std.proofs.Common.{◌≡◌, ◌⊎◌, inl, inr, ℕ, ◌+◌, ◌<◌, List, true, Option, None, Some, length, get_or, Contains, refl, ap, sym, ◌∙◌, subst, arith}
use Rattle.std.proofs.lemmas.List.{get_or_default}
use Rattle.reo_values.specs.declared.value.Value.{Value}
use Rattle.reo_net_base.specs.declared.mark.Mark.TheVariants.{F}
use Rattle.reo_net_base.specs.declared.joint.End.{End}
use Rattle.reo_net_base.specs.Net.{Net, Side, all_sides, no_side, row_count}
use Rattle.reo_net_base.specs.Sides.{side_count}
use Rattle.reo_net_base.specs.Wired.{IsWired}
use Rattle.reo_net_laws.specs.Ends.{mark_in, IsRowOf}
use Rattle.reo_net_laws.proofs.Search.{Decided, any_below, all_below, both_or, bool_or, eq_or}
use Rattle.std.proofs.lemmas.Bool.{cases_lt}
use Rattle.reo_joint_values.specs.declared.value.JointValue.{JointValue}
use Rattle.reo_joint_values.specs.declared.value.JointValue.TheVariants.{RG}
use Rattle.reo_joint_values.specs.Values.{giver_mark, taker_mark, Names, Choice, Family, item_named, joint_of, giver_side, taker_side, AtSide}
use Rattle.reo_joint_values.specs.Fitting.{given_in, passes_in, GivesValue, TakesValue, Fits, IsFrom}
use Rattle.reo_joint_values.specs.Supported.{IsUsed}
use Rattle.reo_joint_values.proofs.Fitting.{fits_local}
use Rattle.reo_refute_base.proofs.Narrowing.{at_cases}
use Rattle.reo_joint_values.proofs.Changing.{HasChoice}
use Rattle.reo_joint_values.proofs.Inside.{side_below}
use Rattle.reo_refute_base.specs.Items.{Lists, numbered}
use Rattle.reo_refute_base.specs.Live.{values_of, all_live, HasSupport}
use Rattle.reo_refute_base.specs.Places.{IsAllowed}
use Rattle.reo_refute_base.specs.laws.Singles.{IsPartOf, SupportIsTold, BranchOrSingle}
use Rattle.reo_refute_base.proofs.laws.Choosing.{choice_told}
use Rattle.reo_refute_base.proofs.laws.Growing.{count_to, grow}
use Rattle.reo_refute_base.proofs.laws.Refuting.{all_among}
use Rattle.reo_refute_base.proofs.laws.Telling.{allowed_or}
use Rattle.reo_refute_base.proofs.laws.Told.{given_told, same_told, items_told, marks_told, options_told, values_told}

module _ (net : Net) (names : Names) where
  gives_told : (c : Choice) (row : ℕ) (e : End) (j : ℕ) (v : JointValue) → Decided (GivesValue net names c row e j v)
  gives_told c row e j v =
      same_told (λ h. record { mark = h.0; item = h.1 }) (λ g. (g.mark, g.item))
      (both_or (giver_mark v ≡ mark_in net row e) (giver_mark v ≡ F → given_in net names c row e ≡ item_named names j v) (marks_told (giver_mark v) (mark_in net row e))
      (given_told (marks_told (giver_mark v) F) (λ flows. options_told items_told (given_in net names c row e) (item_named names j v))))

  lets_in_told : (row : ℕ) (e : End) (o : Option Value) → Decided ((item : Value) → o ≡ Some item → passes_in net row e item ≡ true)
  lets_in_told row e None = inl (λ item is. let wrong : None ≡ Some item = is in absurd cc)
  lets_in_told row e (Some x) =
      same_told
      (λ h item is. let same : Some x ≡ Some item = is in let equal : x ≡ item = cc in subst (λ (y : Value). passes_in net row e y ≡ true) equal h)
      (λ h. h x refl) (bool_or (passes_in net row e x))

  takes_told : (row : ℕ) (e : End) (j : ℕ) (v : JointValue) → Decided (TakesValue net names row e j v)
  takes_told row e j v =
      same_told (λ h. record { mark = h.0; let_in = h.1 }) (λ t. (t.mark, t.let_in))
      (both_or (taker_mark v ≡ mark_in net row e) ((item : Value) → item_named names j v ≡ Some item → passes_in net row e item ≡ true) (marks_told (taker_mark v) (mark_in net row e)) (lets_in_told row e (item_named names j v)))

  -- How many rows a side has.
  abbrev pub rows_at : ℕ → ℕ
  rows_at side = row_count (get_or (all_sides net.primitives) side no_side)

  pub in_table : (side row : ℕ) → side < side_count net → row < rows_at side → IsRowOf net side row
  in_table side row side_in lt d = subst (λ (s : Side). row < row_count s) (get_or_default (all_sides net.primitives) side no_side d side_in) lt

  in_table_told : (side row : ℕ) → side < side_count net → Decided (IsRowOf net side row)
  in_table_told side row side_in = elim (cases_lt row (rows_at side)) [
    | inl lt ↦ inl (in_table side row side_in lt)
    | inr le ↦ inr (λ h. omega (arith, le, h no_side))
  ]

  abbrev AreGiven : Choice → ℕ → ℕ → Type 0
  AreGiven c side row = (j : ℕ) → j < length net.joints → giver_side net j ≡ side → GivesValue net names c row (joint_of net j).giver j (c j)

  abbrev AreTaken : Choice → ℕ → ℕ → Type 0
  AreTaken c side row = (j : ℕ) → j < length net.joints → taker_side net j ≡ side → TakesValue net names row (joint_of net j).taker j (c j)

  given_all : (c : Choice) (side row : ℕ) → Decided (AreGiven c side row)
  given_all c side row =
      all_below (λ (j : ℕ). giver_side net j ≡ side → GivesValue net names c row (joint_of net j).giver j (c j)) (λ j. given_told (eq_or (giver_side net j) side) (λ at. gives_told c row (joint_of net j).giver j (c j))) (length net.joints)

  taken_all : (c : Choice) (side row : ℕ) → Decided (AreTaken c side row)
  taken_all c side row =
      all_below (λ (j : ℕ). taker_side net j ≡ side → TakesValue net names row (joint_of net j).taker j (c j)) (λ j. given_told (eq_or (taker_side net j) side) (λ at. takes_told row (joint_of net j).taker j (c j))) (length net.joints)

  fits_told : (c : Choice) (side row : ℕ) → side < side_count net → Decided (Fits net names c side row)
  fits_told c side row side_in =
      same_told (λ h. record { in_table = h.0; gives = h.1.0; takes = h.1.1 }) (λ f. (f.in_table, (f.gives, f.takes)))
      (both_or (IsRowOf net side row) (AreGiven c side row × AreTaken c side row) (in_table_told side row side_in) (both_or (AreGiven c side row) (AreTaken c side row) (given_all c side row) (taken_all c side row)))

  from_told : (family : Family) (c : Choice) (side : ℕ) → Decided (IsFrom net family c side)
  from_told family c side = all_below (λ (j : ℕ). AtSide net j side → family j (c j) ≡ true) (λ j. given_told (at_cases net j side) (λ at. bool_or (family j (c j)))) (length net.joints)

-- What is chosen at the joints of a side, and elsewhere any value.
abbrev kept : {A : Type 0} → A ⊎ (A → ⊥) → JointValue → JointValue
kept (inl here) w = w
kept (inr elsewhere) w = RG

kept_here : {A : Type 0} (x : A ⊎ (A → ⊥)) → A → (w : JointValue) → w ≡ kept x w
kept_here (inl here) a w = refl
kept_here (inr elsewhere) a w = absurd (elsewhere a)

module _ (net : Net) (wired : IsWired net) (turn : ℕ) (given : List ℕ) (lists : Lists) (p : ℕ) (live : Family) (within : IsPartOf live (all_live lists)) (side j : ℕ) (v : JointValue) (j_in : j < length net.joints) (at : AtSide net j side) where
  abbrev names : Names
  names = numbered lists

  side_in : side < side_count net
  side_in = side_below net wired j side j_in at

  -- A choice by which a row uses the value.
  abbrev Uses : ℕ → Choice → Type 0
  Uses row c = Fits net names c side row × ((c j ≡ v) × IsFrom net live c side)

  uses_told : (row : ℕ) (c : Choice) → Decided (Uses row c)
  uses_told row c =
      both_or (Fits net names c side row) ((c j ≡ v) × IsFrom net live c side) (fits_told net names c side row side_in)
      (both_or (c j ≡ v) (IsFrom net live c side) (values_told (c j) v) (from_told net names live c side))

  uses_same : (row : ℕ) (c e : Choice) → ((i : ℕ) → i < length net.joints → c i ≡ e i) → Uses row c → Uses row e
  uses_same row c e agree h = (
    fits_local net wired names c e side row (λ i lt i_at. agree i lt) h.0,
    (sym (agree j j_in) ∙ h.1.0, λ i lt i_at. ap (live i) (sym (agree i lt)) ∙ h.1.1 i lt i_at),
  )

  allowed_told : (row : ℕ) → Decided (IsAllowed net turn given p side row)
  allowed_told row = elim (cases_lt row (rows_at net names side)) [
    | inl lt ↦ allowed_or net turn given p side row (in_table net names side row side_in lt)
    | inr le ↦ inr (λ a. omega (arith, le, a.in_table no_side))
  ]

  module _ (u : IsUsed net names live side j v) where
    kept_among : (i : ℕ) → i < length net.joints → (x : AtSide net i side ⊎ (AtSide net i side → ⊥)) → Contains (values_of lists i) (kept x (u.choice i))
    kept_among i lt (inl here) = all_among lists i (u.choice i) (within i (u.choice i) (u.from i lt here))
    kept_among i lt (inr elsewhere) = all_among lists i RG refl

    -- A value that is used is used by a choice from the lists.
    listed_use : HasChoice (values_of lists) (length net.joints) (Uses u.row)
    listed_use =
        let local : Choice = λ i. kept (at_cases net i side) (u.choice i) in
        let same : (i : ℕ) → i < length net.joints → AtSide net i side → u.choice i ≡ local i = λ i i_in i_at. kept_here (at_cases net i side) i_at (u.choice i) in (
          local,
          λ i i_in. kept_among i i_in (at_cases net i side),
          (fits_local net wired names u.choice local side u.row same u.fits, (sym (same j j_in at) ∙ u.chosen, λ i i_in i_at. ap (live i) (sym (same i i_in i_at)) ∙ u.from i i_in i_at)),
        )

  abbrev Supports : ℕ → Type 0
  Supports row = IsAllowed net turn given p side row × HasChoice (values_of lists) (length net.joints) (Uses row)

  pub support_told : HasSupport net (numbered lists) (IsAllowed net turn given p) live side j v ⊎ (HasSupport net (numbered lists) (IsAllowed net turn given p) live side j v → ⊥)
  support_told =
      elim (any_below Supports (λ row. both_or (IsAllowed net turn given p side row) (HasChoice (values_of lists) (length net.joints) (Uses row)) (allowed_told row) (choice_told (values_of lists) (length net.joints) (Uses row) (uses_told row) (uses_same row))) (rows_at net names side)) [
        | inl f ↦ inl (record { used = record { row = f.0; choice = f.2.1.0; fits = f.2.1.2.0; chosen = f.2.1.2.1.0; from = f.2.1.2.1.1 }; allowed_row = f.2.0 })
        | inr none ↦ inr (λ s. none s.used.row (s.used.fits.in_table no_side) (s.allowed_row, listed_use s.used))
      ]

pub support_is_told : SupportIsTold
support_is_told net wired turn given lists p live within side j v j_in at = support_told net wired turn given lists p live within side j v j_in at

pub branch_or_single : BranchOrSingle
branch_or_single net wired turn given lists p live within =
    grow net lists (IsAllowed net turn given p) (λ now sub side j v j_in at. support_told net wired turn given lists p now sub side j v j_in at)
    (count_to lists live (length net.joints) + 1) live within (omega arith)
