-- Values that are supported where there are fewer rows were supported before.
use Rattle.std.proofs.Common.{◌≡◌, ◌⊎◌, inl, inr, ℕ, ◌<◌, List, Bool, Option, None, Some, true, false, cond, length, refl, ap, sym, ◌∙◌, subst}
use Rattle.std.specs.Option.{is_some, option_and_then}
use Rattle.reo_values.specs.declared.value.Value.{Value}
use Rattle.reo_net_base.specs.declared.mark.Mark.TheVariants.{F}
use Rattle.reo_net_base.specs.declared.joint.End.{End}
use Rattle.reo_net_base.specs.declared.joint.Joint.{Joint}
use Rattle.reo_net_base.specs.Behaviour.{Behaviour}
use Rattle.reo_net_base.specs.Net.{Net, all_sides, behaviour_at, end_of, side_at}
use Rattle.reo_net_base.specs.Colouring.{taken_at}
use Rattle.reo_net_base.specs.Wired.{IsWired, IsEnd}
use Rattle.reo_net_laws.specs.Ends.{mark_in, from_in, IsRowOf}
use Rattle.reo_weights.proofs.Sides.{side_in_range}
use Rattle.reo_weights.proofs.Assignments.{side_same}
use Rattle.reo_joint_values.specs.declared.value.JointValue.{JointValue}
use Rattle.reo_joint_values.specs.declared.value.JointValue.TheVariants.{Flow, RG, GR, GG, Jam}
use Rattle.reo_joint_values.specs.Values.{Names, Choice, Family, item_named, items_of, no_joint, joint_of, giver_side, taker_side, AtSide}
use Rattle.reo_joint_values.specs.Fitting.{given_for, given_in, passes_in, Fits}
use Rattle.reo_joint_values.specs.Supported.{IsUsed, IsWithin, IsInGreatest}
use Rattle.reo_joint_values.proofs.Fitting.{fits_local}
use Rattle.reo_joint_values.proofs.Narrowing.{at_cases}
use Rattle.reo_weights.specs.Fewer.{HasFewerRows}
use Rattle.reo_weights.specs.Weights.{all_values}
use Rattle.reo_weights.proofs.FewerEnds.{nowhere, shaped, StandsAt, stands_of, old_mark, old_passes, old_from, old_given}
use Rattle.reo_weights.proofs.MoveLemmas.{same_fits, value_there, there_same}

-- Numbers for some of the items that have one.
module _ (names : Names) (keeps : (j : ℕ) (item : Value) → Bool) where
  abbrev kept : ℕ → Option Value → Option Value
  kept j None = None
  kept j (Some item) = cond (keeps j item) (Some item) None

  abbrev pub some_names : Names
  some_names j n = kept j (names j n)

  kept_was : (j : ℕ) (o : Option Value) (item : Value) → kept j o ≡ Some item → (o ≡ Some item) × (keeps j item ≡ true)
  kept_was j None item is = absurd cc
  kept_was j (Some x) item is =
      elim (keeps j x) as (λ t. keeps j x ≡ t → cond t (Some x) None ≡ Some item → (Some x ≡ Some item) × (keeps j item ≡ true)) [
        | true ↦ λ keep same. let one : x ≡ item = cc in (same, subst (λ (y : Value). keeps j y ≡ true) one keep)
        | false ↦ λ keep same. absurd cc
      ] refl is

  -- The item of a number.
  pub some_name_was : (j n : ℕ) (item : Value) → some_names j n ≡ Some item → (names j n ≡ Some item) × (keeps j item ≡ true)
  some_name_was j n item is = kept_was j (names j n) item is

  pub some_name_is : (j n : ℕ) (item : Value) → names j n ≡ Some item → keeps j item ≡ true → some_names j n ≡ Some item
  some_name_is j n item is keep = ap (kept j) is ∙ ap (λ (t : Bool). cond t (Some item) None) keep

  kept_some : (j : ℕ) (o : Option Value) → is_some (kept j o) ≡ true → (kept j o ≡ o) × (is_some o ≡ true)
  kept_some j None is = (refl, is)
  kept_some j (Some x) is =
      (elim (keeps j x) as (λ t. is_some (cond t (Some x) None) ≡ true → cond t (Some x) None ≡ Some x) [ true ↦ λ h. refl | false ↦ λ h. absurd cc ] is, refl)

  -- A value by these numbers is one by all numbers, with the same item.
  pub value_was : (j : ℕ) (v : JointValue) → all_values some_names j v ≡ true → all_values names j v ≡ true
  value_was j (Flow n) is = (kept_some j (names j n) is).1
  value_was j RG is = refl
  value_was j GR is = refl
  value_was j GG is = refl
  value_was j Jam is = refl

  pub item_was : (j : ℕ) (v : JointValue) → all_values some_names j v ≡ true → item_named some_names j v ≡ item_named names j v
  item_was j (Flow n) is = (kept_some j (names j n) is).0
  item_was j RG is = refl
  item_was j GR is = refl
  item_was j GG is = refl
  item_was j Jam is = refl

module _ (bs ds : List Behaviour) (js : List Joint) (wired : IsWired (record { primitives = bs; joints = js })) (wired_fewer : IsWired (record { primitives = ds; joints = js })) (inside : ℕ → Bool)
    (fewer : HasFewerRows (record { primitives = bs; joints = js }) (record { primitives = ds; joints = js }) inside) where
  abbrev net : Net
  net = record { primitives = bs; joints = js }

  abbrev other : Net
  other = record { primitives = ds; joints = js }

  giver_same : (j : ℕ) → j < length js → giver_side other j ≡ giver_side net j
  giver_same j lt = side_same bs ds js wired nowhere (shaped bs ds js wired inside fewer) (joint_of net j).giver (wired.givers j no_joint lt)

  taker_same : (j : ℕ) → j < length js → taker_side other j ≡ taker_side net j
  taker_same j lt = side_same bs ds js wired nowhere (shaped bs ds js wired inside fewer) (joint_of net j).taker (wired.takers j no_joint lt)

  at_there : (j side : ℕ) → j < length js → AtSide net j side → AtSide other j side
  at_there j side lt at = elim at [ inl giver ↦ inl (giver_same j lt ∙ giver) | inr taker ↦ inr (taker_same j lt ∙ taker) ]

  at_back : (j side : ℕ) → j < length js → AtSide other j side → AtSide net j side
  at_back j side lt at = elim at [ inl giver ↦ inl (sym (giver_same j lt) ∙ giver) | inr taker ↦ inr (sym (taker_same j lt) ∙ taker) ]

  side_of_joint : (j side : ℕ) → j < length js → AtSide net j side → side < length (all_sides bs)
  side_of_joint j side lt at = elim at [
    | inl giver ↦ subst (λ (s : ℕ). s < length (all_sides bs)) giver (side_in_range net wired (joint_of net j).giver (wired.givers j no_joint lt))
    | inr taker ↦ subst (λ (s : ℕ). s < length (all_sides bs)) taker (side_in_range net wired (joint_of net j).taker (wired.takers j no_joint lt))
  ]

  module _ (names : Names) (choice : Choice) (side row old : ℕ) (stands : StandsAt bs ds js wired inside fewer side row old) where
    given_before : (e : End) (e_in : IsEnd bs e) → side_at net e ≡ side → (behaviour_at bs e.primitive).takes_in e.end ≡ false → mark_in net old e ≡ F
        → given_in other names choice row e ≡ given_in net names choice old e
    unfolding given_in given_for
    given_before e e_in at gives flows =
        let taken : Option ℕ → Option Value = option_and_then (λ from. taken_at js (items_of net names choice) (end_of e.primitive from)) in
        ap (λ (o : Option ℕ). (behaviour_at ds e.primitive).given ((behaviour_at ds e.primitive).side_of e.end) row e.end (taken o)) (old_from bs ds js wired inside fewer e e_in row old (stands e e_in at) flows gives)
        ∙ old_given bs ds js wired inside fewer e e_in row old (stands e e_in at) flows gives (taken (from_in net old e))

    let_in_before : (e : End) (e_in : IsEnd bs e) → side_at net e ≡ side → (behaviour_at bs e.primitive).takes_in e.end ≡ true → (item : Value) → passes_in other row e item ≡ passes_in net old e item
    unfolding passes_in
    let_in_before e e_in at takes item = old_passes bs ds js wired inside fewer e e_in row old (stands e e_in at) takes item

    -- What fits a row fits the row that it stands for.
    fits_before : IsRowOf net side old → Fits other names choice side row → Fits net names choice side old
    fits_before in_table fits = record {
      in_table = in_table;
      gives = λ j j_in at.
          let value = fits.gives j j_in (giver_same j j_in ∙ at) in
          let e : End = (joint_of net j).giver in
          let e_in = wired.givers j no_joint j_in in
          let mark = value.mark ∙ old_mark bs ds js wired inside fewer e e_in row old (stands e e_in at) in
          record { mark = mark; item = λ flows. sym (given_before e e_in at (wired.gives j no_joint j_in) (sym mark ∙ flows)) ∙ value.item flows };
      takes = λ j j_in at.
          let value = fits.takes j j_in (taker_same j j_in ∙ at) in
          let e : End = (joint_of net j).taker in
          let e_in = wired.takers j no_joint j_in in
          record {
            mark = value.mark ∙ old_mark bs ds js wired inside fewer e e_in row old (stands e e_in at);
            let_in = λ item named. sym (let_in_before e e_in at (wired.takes j no_joint j_in) item) ∙ value.let_in item named;
          };
    }

  module _ (names : Names) (keeps : (j : ℕ) (item : Value) → Bool) (family : Family) (within : IsWithin other inside family (all_values (some_names names keeps))) where
    used_before : (side j : ℕ) (v : JointValue) → inside side ≡ true → j < length js → AtSide net j side → IsUsed other (some_names names keeps) family side j v → IsUsed net names family side j v
    used_before side j v is lt at u =
        let few : Names = some_names names keeps in
        let local : Choice = λ i. value_there (at_cases other i side) (u.choice i) in
        let same : (i : ℕ) → i < length js → AtSide other i side → u.choice i ≡ local i = λ i i_in i_at. there_same (at_cases other i side) i_at (u.choice i) in
        let here : Fits other few local side u.row = fits_local other wired_fewer few u.choice local side u.row same u.fits in
        let renamed : Fits other names local side u.row = same_fits other few names local local (λ i i_in. item_there i side (u.choice i) i_in is (at_cases other i side) (λ i_at. u.from i i_in i_at)) side u.row (λ i i_in i_at. (refl, refl)) here in
        let old = stands_of bs ds js wired inside fewer side u.row (side_of_joint j side lt at) is renamed.in_table in
        record {
          row = old.0;
          choice = local;
          fits = fits_before names local side u.row old.0 old.1 old.2 renamed;
          chosen = sym (same j lt (at_there j side lt at)) ∙ u.chosen;
          from = λ i i_in i_at. ap (family i) (sym (same i i_in (at_there i side i_in i_at))) ∙ u.from i i_in (at_there i side i_in i_at);
        }
      where
        item_there : (i side : ℕ) (v : JointValue) → i < length js → inside side ≡ true → (x : AtSide other i side ⊎ (AtSide other i side → ⊥)) → (AtSide other i side → family i v ≡ true)
            → item_named (some_names names keeps) i (value_there x v) ≡ item_named names i (value_there x v)
        item_there i side v i_in is (inl here) has = item_was names keeps i v (within i side v i_in here is (has here))
        item_there i side v i_in is (inr elsewhere) has = refl

  -- A value of the greatest supported family was one before.
  pub greatest_before : (names : Names) (keeps : (j : ℕ) (item : Value) → Bool) (j : ℕ) (v : JointValue)
      → IsInGreatest other (some_names names keeps) inside (all_values (some_names names keeps)) j v → IsInGreatest net names inside (all_values names) j v
  greatest_before names keeps j v g = record {
    family = g.family;
    within = λ i side w lt at is has. value_was names keeps i w (g.within i side w lt (at_there i side lt at) is has);
    supported = λ side is i w lt at has. used_before names keeps g.family g.within side i w is lt at (g.supported side is i w lt (at_there i side lt at) has);
    has = g.has;
  }
