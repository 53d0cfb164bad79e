-- Each set of sides has a weight, and whether some part is over a budget is decided.
use Rattle.std.proofs.Common.{◌≡◌, ◌⊎◌, inl, inr, ℕ, zero, suc, ◌<◌, ◌≤◌, List, [], Bool, true, length, get_or, refl, sym, subst, arith, below_more}
use Rattle.std.specs.Prelude.{map}
use Rattle.std.specs.List.{filter, range_with_len}
use Rattle.std.proofs.lemmas.Bool.{cases_lt}
use Rattle.std.proofs.lemmas.List.{length-map, get_or-map}
use Rattle.std.proofs.lemmas.List.Elements.{Contains-get_or}
use Rattle.reo_net_base.specs.Net.{Net}
use Rattle.reo_net_base.specs.Sides.{side_count}
use Rattle.reo_net_base.specs.Wired.{IsWired, IsOrder}
use Rattle.reo_net_laws.specs.Parts.{SameKnot}
use Rattle.reo_net_laws.specs.Knots.{AreNumbers, AreThose, IsLoop, in_knot}
use Rattle.reo_net_laws.proofs.KnotGroups.{picked_those}
use Rattle.reo_joint_values.specs.Many.{IsJointIn}
use Rattle.reo_joint_values.specs.declared.value.JointValue.{JointValue}
use Rattle.reo_weights.specs.Weights.{all_values, AreSupported, IsWeight, product_of, capped}
use Rattle.reo_weights.specs.Over.{Cause, IsWithin, IsOverBy, IsOver}
use Rattle.reo_weights.specs.Over.Cause.{spent, wide}
use Rattle.reo_weights.specs.Laws.{OverIsDecided, WeightExists}
use Rattle.reo_weights.proofs.CauseLemmas.{within_not_over}
use Rattle.reo_weights.proofs.Decisions.{IsDecided, is_so, so_true, true_so}
use Rattle.reo_weights.proofs.GreatestLemmas.{value_list, supported_values, supported_are}
use Rattle.reo_weights.proofs.Listings.{HasList}
use Rattle.reo_weights.proofs.MoveLemmas.{joint_cases}
use Rattle.reo_weights.proofs.NameLemmas.{item_names, items_there, named_below, names_are, wide_decided}
use Rattle.reo_weights.proofs.PartLists.{part_numbers, loop_decided}

module _ (net : Net) (wired : IsWired net) (order : List ℕ) (is : IsOrder net order) where
  -- The values of each joint.
  values_there : (j : ℕ) → HasList (λ (v : JointValue). all_values (item_names net wired order is) j v ≡ true)
  values_there j = value_list (item_names net wired order is) j (length (items_there net wired order is j)) (λ n some. named_below (items_there net wired order is j) n some)

  module _ (inside : ℕ → Bool) where
    abbrev IsLoopIn : ℕ → Type 0
    IsLoopIn j = IsJointIn net inside j × IsLoop net j

    loop_in_decided : (j : ℕ) → IsDecided (IsLoopIn j)
    loop_in_decided j = elim (joint_cases net inside j) [
      | inr out ↦ inr (λ h. out h.0)
      | inl at ↦ elim (loop_decided net wired j at.0) [ inl loop ↦ inl (at, loop) | inr none ↦ inr (λ h. none h.1) ]
    ]

    abbrev loop_list : List ℕ
    loop_list = filter (λ j. is_so (loop_in_decided j)) (range_with_len 0 (length net.joints))

    loops_are : AreThose IsLoopIn loop_list
    loops_are = picked_those IsLoopIn (λ j. is_so (loop_in_decided j)) (length net.joints) (λ j. (λ h. true_so (loop_in_decided j) h.1, λ h. (h.0.0, so_true (loop_in_decided j) h)))

    abbrev supported_there : ℕ → List JointValue
    supported_there j = supported_values net (item_names net wired order is) wired values_there inside j

    values_are : (m : ℕ) → m < length loop_list → AreSupported net (item_names net wired order is) inside (get_or loop_list m 0) (get_or (map supported_there loop_list) m [])
    values_are m lt =
        let j : ℕ = get_or loop_list m 0 in
        let at = ((loops_are.exact j).0 (Contains-get_or loop_list m 0 lt)).0 in
        subst (λ (vs : List JointValue). AreSupported net (item_names net wired order is) inside j vs) (sym (get_or-map supported_there loop_list m 0 [] lt))
        (supported_are net (item_names net wired order is) wired values_there inside j at)

    -- A set of sides has a weight.
    pub some_weight : (weight : ℕ) × IsWeight net inside weight
    some_weight = (
      capped (product_of (map length (map supported_there loop_list))),
      record {
        names = item_names net wired order is;
        named = names_are net wired order is inside;
        loops = loop_list;
        are_loops = loops_are;
        values = map supported_there loop_list;
        one_each = length-map loop_list supported_there;
        supported = values_are;
        is = refl;
      },
    )

    -- It is within a budget, or over it for some cause.
    judged : (budget k : ℕ) → IsWithin budget net inside ⊎ ((cause : Cause) × IsOverBy budget net inside k cause)
    judged budget k = elim (wide_decided net wired order is inside) [
      | inl too_many ↦ inr (wide k, (refl, too_many))
      | inr narrow ↦
          let weight : ℕ = some_weight.0 in
          let weighs : IsWeight net inside weight = some_weight.1 in
          elim (cases_lt budget weight) [
            | inl many ↦ inr (spent k weight budget, (refl, refl, record { narrow = narrow; weighs = weighs; many = many }))
            | inr few ↦ inl (record { narrow = narrow; weight = weight; weighs = weighs; few = few })
          ]
    ]

  module _ (budget : ℕ) (numbers : List ℕ) (count : ℕ) (are : AreNumbers (SameKnot net) (side_count net) numbers count) where
    -- The first n parts are within the budget, or there is a cause.
    least_over : (n : ℕ) → n ≤ count → ((k : ℕ) → k < n → IsWithin budget net (in_knot numbers k)) ⊎ ((cause : Cause) × IsOver budget net cause)
    least_over zero le = inl (λ k lt. absurd (omega arith))
    least_over (suc n) le = elim (least_over n (omega arith)) [
      | inr over ↦ inr over
      | inl within ↦ elim (judged (in_knot numbers n) budget n) [
        | inl here ↦ inl (λ k lt. below_more (λ (k : ℕ). IsWithin budget net (in_knot numbers k)) n within here k (omega arith))
        | inr over ↦ inr (over.0, record { numbers = numbers; count = count; numbered = are; knot = n; in_range = omega arith; over = over.1; before = within })
      ]
    ]

-- Each set of sides has a weight.
pub weight_exists : WeightExists
weight_exists net wired order is inside = some_weight net wired order is inside

-- Whether a round cannot be planned within a budget is decided.
pub over_decided : OverIsDecided
over_decided budget net wired order is =
    let they = part_numbers net wired in
    elim (least_over net wired order is budget they.0 they.1 they.2 they.1 (omega arith)) [
      | inr over ↦ inl over
      | inl within ↦ inr (within_not_over budget net wired they.0 they.1 they.2 within)
    ]
