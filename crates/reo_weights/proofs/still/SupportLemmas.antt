-- The values that are supported at joints of a set, in circuits that are alike on the set.
use Rattle.std.proofs.Common.{◌≡◌, inl, inr, ℕ, ◌<◌, List, Bool, Option, true, false, length, ap, sym, ◌∙◌, subst}
use Rattle.std.specs.Option.{option_and_then}
use Rattle.reo_values.specs.declared.value.Value.{Value}
use Rattle.reo_net_base.specs.declared.mark.Mark.TheVariants.{F}
use Rattle.reo_net_base.specs.declared.joint.End.{End}
use Rattle.reo_net_base.specs.declared.joint.Joint.{Joint}
use Rattle.reo_net_base.specs.Behaviour.{Behaviour}
use Rattle.reo_net_base.specs.Net.{Net, all_sides, behaviour_at, end_of, side_at}
use Rattle.reo_net_base.specs.Colouring.{taken_at}
use Rattle.reo_net_base.specs.Wired.{IsWired, IsEnd}
use Rattle.reo_net_laws.specs.Ends.{mark_in, from_in, IsRowOf}
use Rattle.reo_net_laws.specs.Alike.{AreAlike}
use Rattle.reo_weights.proofs.Sides.{owner_of, owner_side, side_in_range}
use Rattle.reo_weights.proofs.Assignments.{side_same, side_other, side_inside}
use Rattle.reo_joint_values.specs.declared.value.JointValue.{JointValue}
use Rattle.reo_joint_values.specs.Values.{Names, Choice, Family, items_of, no_joint, joint_of, giver_side, taker_side, AtSide}
use Rattle.reo_joint_values.specs.Fitting.{given_for, given_in, passes_in, Fits}
use Rattle.reo_joint_values.specs.Supported.{IsUsed, IsSupported, IsInGreatest}
use Rattle.reo_joint_values.proofs.Fitting.{giver_row, taker_row}
use Rattle.reo_weights.proofs.still.EndLemmas.{mark_alike, passes_alike, from_alike, given_alike}

module _ (bs ds : List Behaviour) (js : List Joint) (wired : IsWired (record { primitives = bs; joints = js })) (inside : ℕ → Bool)
    (alike : AreAlike (record { primitives = bs; joints = js }) (record { primitives = ds; joints = js }) inside) where
  abbrev net : Net
  net = record { primitives = bs; joints = js }

  abbrev other : Net
  other = record { primitives = ds; joints = js }

  -- A joint comes from the same side.
  pub giver_side_same : (j : ℕ) → j < length js → giver_side other j ≡ giver_side net j
  giver_side_same j lt = side_same bs ds js wired inside alike (joint_of net j).giver (wired.givers j no_joint lt)

  -- A joint goes to the same side.
  pub taker_side_same : (j : ℕ) → j < length js → taker_side other j ≡ taker_side net j
  taker_side_same j lt = side_same bs ds js wired inside alike (joint_of net j).taker (wired.takers j no_joint lt)

  at_side_there : (j side : ℕ) → j < length js → AtSide net j side → AtSide other j side
  at_side_there j side lt at = elim at [ inl giver ↦ inl (giver_side_same j lt ∙ giver) | inr taker ↦ inr (taker_side_same j lt ∙ taker) ]

  at_side_back : (j side : ℕ) → j < length js → AtSide other j side → AtSide net j side
  at_side_back j side lt at = elim at [ inl giver ↦ inl (sym (giver_side_same j lt) ∙ giver) | inr taker ↦ inr (sym (taker_side_same j lt) ∙ taker) ]

  -- A side at which a joint is.
  side_of_joint : (j side : ℕ) → j < length js → AtSide net j side → side < length (all_sides bs)
  side_of_joint j side lt at = elim at [
    | inl giver ↦ subst (λ (s : ℕ). s < length (all_sides bs)) giver (side_in_range net wired (joint_of net j).giver (wired.givers j no_joint lt))
    | inr taker ↦ subst (λ (s : ℕ). s < length (all_sides bs)) taker (side_in_range net wired (joint_of net j).taker (wired.takers j no_joint lt))
  ]

  row_there : (side row : ℕ) → side < length (all_sides bs) → inside side ≡ true → IsRowOf net side row → IsRowOf other side row
  row_there side row lt h is d =
      let o = owner_of bs side lt in
      rw (side_other bs ds js wired inside alike side o d, (side_inside bs ds js wired inside alike side o h).rows) (rw (owner_side bs side o d) at (is d))

  module _ (names : Names) (choice : Choice) (row : ℕ) where
    -- What a row gives at an end of the set.
    item_there : (e : End) (e_in : IsEnd bs e) → inside (side_at net e) ≡ true → row < (behaviour_at bs e.primitive).rows ((behaviour_at bs e.primitive).side_of e.end)
        → (behaviour_at bs e.primitive).takes_in e.end ≡ false → mark_in net row e ≡ F → given_in other names choice row e ≡ given_in net names choice row e
    unfolding given_in given_for
    item_there e e_in h row_in gives flows =
        let taken : Option ℕ → Option Value = option_and_then (λ from. taken_at js (items_of net names choice) (end_of e.primitive from)) in
        ap (λ (o : Option ℕ). (behaviour_at ds e.primitive).given ((behaviour_at ds e.primitive).side_of e.end) row e.end (taken o)) (from_alike bs ds js wired inside alike e e_in h row row_in gives flows)
        ∙ given_alike bs ds js wired inside alike e e_in h row row_in gives flows (taken (from_in net row e))

    -- What a row lets in at an end of the set.
    let_in_there : (e : End) (e_in : IsEnd bs e) → inside (side_at net e) ≡ true → row < (behaviour_at bs e.primitive).rows ((behaviour_at bs e.primitive).side_of e.end)
        → (behaviour_at bs e.primitive).takes_in e.end ≡ true → (item : Value) → passes_in other row e item ≡ passes_in net row e item
    unfolding passes_in
    let_in_there e e_in h row_in takes item = passes_alike bs ds js wired inside alike e e_in h row row_in takes item

    fits_there : (side : ℕ) → side < length (all_sides bs) → inside side ≡ true → Fits net names choice side row → Fits other names choice side row
    fits_there side lt h fits = record {
      in_table = row_there side row lt h fits.in_table;
      gives = λ j j_in at.
          let here : giver_side net j ≡ side = sym (giver_side_same j j_in) ∙ at in
          let value = fits.gives j j_in here in
          let e : End = (joint_of net j).giver in
          let e_in = wired.givers j no_joint j_in in
          let row_in = giver_row net wired side row j j_in here fits.in_table in
          record {
            mark = value.mark ∙ sym (mark_alike bs ds js wired inside alike e e_in (ap inside here ∙ h) row row_in);
            item = λ flows. item_there e e_in (ap inside here ∙ h) row_in (wired.gives j no_joint j_in) (sym value.mark ∙ flows) ∙ value.item flows;
          };
      takes = λ j j_in at.
          let here : taker_side net j ≡ side = sym (taker_side_same j j_in) ∙ at in
          let value = fits.takes j j_in here in
          let e : End = (joint_of net j).taker in
          let e_in = wired.takers j no_joint j_in in
          let row_in = taker_row net wired side row j j_in here fits.in_table in
          record {
            mark = value.mark ∙ sym (mark_alike bs ds js wired inside alike e e_in (ap inside here ∙ h) row row_in);
            let_in = λ item named. let_in_there e e_in (ap inside here ∙ h) row_in (wired.takes j no_joint j_in) item ∙ value.let_in item named;
          };
    }

  used_there : (names : Names) (family : Family) (side j : ℕ) (v : JointValue) → side < length (all_sides bs) → inside side ≡ true → IsUsed net names family side j v → IsUsed other names family side j v
  used_there names family side j v lt h used = record {
    row = used.row;
    choice = used.choice;
    fits = fits_there names used.choice used.row side lt h used.fits;
    chosen = used.chosen;
    from = λ i i_in at. used.from i i_in (at_side_back i side i_in at);
  }

  supported_there : (names : Names) (family : Family) → IsSupported net names inside family → IsSupported other names inside family
  supported_there names family supported side h j v lt at has =
      let back = at_side_back j side lt at in
      used_there names family side j v (side_of_joint j side lt back) h (supported side h j v lt back has)

  -- A value that is supported at a joint of the set is supported there in the other.
  pub greatest_there : (names : Names) (sets : Family) (j : ℕ) (v : JointValue) → IsInGreatest net names inside sets j v → IsInGreatest other names inside sets j v
  greatest_there names sets j v is = record {
    family = is.family;
    within = λ i side w lt at h has. is.within i side w lt (at_side_back i side lt at) h has;
    supported = supported_there names is.family is.supported;
    has = is.has;
  }
