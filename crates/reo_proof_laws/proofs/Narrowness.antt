-- Where no part is over a budget, none is wide.
use Rattle.std.proofs.Common.{◌≡◌, ◌⊎◌, inl, inr, ℕ, zero, suc, ◌<◌, ◌≤◌, List, Bool, true, get_or, refl, arith, below_more}
use Rattle.std.proofs.lemmas.Bool.{cases_lt}
use Rattle.std.proofs.lemmas.Bool.Decides.{nat_tests}
use Rattle.reo_net_base.specs.Net.{Net, side_at}
use Rattle.reo_net_base.specs.Sides.{side_count}
use Rattle.reo_net_base.specs.Wired.{IsWired, IsOrder}
use Rattle.reo_net_laws.specs.Parts.{SameKnot}
use Rattle.reo_net_laws.proofs.Sides.{side_in_range}
use Rattle.reo_joint_values.specs.Standing.{no_joint, giver_of}
use Rattle.reo_net_laws.specs.Knots.{AreNumbers, in_knot}
use Rattle.reo_weights.specs.Weights.{IsWeight}
use Rattle.reo_weights.specs.Over.{Cause, IsWithin, IsOverBy, IsOver}
use Rattle.reo_weights.specs.Over.Cause.{spent, wide}
use Rattle.reo_weights.proofs.ExistLemmas.{weight_exists}
use Rattle.reo_weights.proofs.NameLemmas.{wide_decided}
use Rattle.reo_weights.proofs.PartLists.{part_numbers}
use Rattle.reo_proof_laws.specs.Logs.{WithinIsNarrow}

-- A side is in the knot of its number.
in_own : (net : Net) (numbers : List ℕ) (count s : ℕ) → AreNumbers (SameKnot net) (side_count net) numbers count → s < side_count net → in_knot numbers (get_or numbers s 0) s ≡ true
in_own net numbers count s are lt = grind (arith, nat_tests, lt, are.one_each)

module _ (net : Net) (wired : IsWired net) (order : List ℕ) (is_order : IsOrder net order) (budget : ℕ) where
  -- A set of sides is within the budget, or over it for some cause.
  judged : (inside : ℕ → Bool) (k : ℕ) → IsWithin budget net inside ⊎ ((cause : Cause) × IsOverBy budget net inside k cause)
  judged inside k = elim (wide_decided net wired order is_order inside) [
    | inl too_many ↦ inr (wide k, (refl, too_many))
    | inr narrow ↦
        let weight : ℕ = (weight_exists net wired order is_order inside).0 in
        let weighs : IsWeight net inside weight = (weight_exists net wired order is_order inside).1 in
        elim (cases_lt budget weight) [
          | inl many ↦ inr (spent k weight budget, (refl, refl, record { narrow = narrow; weighs = weighs; many = many }))
          | inr few ↦ inl (record { narrow = narrow; weight = weight; weighs = weighs; few = few })
        ]
  ]

  module _ (numbers : List ℕ) (count : ℕ) (are : AreNumbers (SameKnot net) (side_count net) numbers count) where
    -- The first n parts are within the budget, or there is a cause.
    least_over : (n : ℕ) → n ≤ count → ((k : ℕ) → k < n → IsWithin budget net (in_knot numbers k)) ⊎ ((cause : Cause) × IsOver budget net cause)
    least_over zero le = inl (λ k lt. absurd (omega (arith, lt)))
    least_over (suc n) le = elim (least_over n (omega (arith, le))) [
      | inr over ↦ inr over
      | inl within ↦ elim (judged (in_knot numbers n) n) [
        | inl here ↦ inl (λ k lt. below_more (λ (k : ℕ). IsWithin budget net (in_knot numbers k)) n within here k (omega (arith, lt)))
        | inr over ↦ inr (over.0, record { numbers = numbers; count = count; numbered = are; knot = n; in_range = omega (arith, le); over = over.1; before = within })
      ]
    ]

pub within_is_narrow : WithinIsNarrow
within_is_narrow budget net wired order is_order none (j, lt, many) =
    let they = part_numbers net wired in
    let side : ℕ = side_at net (giver_of net j) in
    let side_in : side < side_count net = side_in_range net wired (giver_of net j) (wired.givers j no_joint lt) in
    elim (least_over net wired order is_order budget they.0 they.1 they.2 they.1 (omega arith)) [
      | inr over ↦ none over.0 over.1
      | inl within ↦
          let knot : ℕ = get_or they.0 side 0 in
          (within knot (they.2.in_range side side_in)).narrow
          (record { joint = j; is_joint = (lt, in_own net they.0 they.1 side they.2 side_in); many = many })
    ]
