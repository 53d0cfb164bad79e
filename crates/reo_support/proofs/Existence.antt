-- A supported family with some value at each joint has an assignment.
use Rattle.std.proofs.Common.{◌≡◌, ◌⊎◌, inl, inr, ℕ, zero, suc, ◌<◌, true, length, refl, subst, arith}
use Rattle.std.proofs.lemmas.Bool.{cases_eq}
use Rattle.reo_net_base.specs.Net.{Net}
use Rattle.reo_net_base.specs.Sides.{side_count}
use Rattle.reo_net_base.specs.Wired.{IsWired}
use Rattle.reo_net_laws.specs.Ends.{IsRowOf}
use Rattle.reo_net_laws.proofs.Sides.{owner_of, owner_side}
use Rattle.reo_joint_values.specs.declared.value.JointValue.TheVariants.{Jam}
use Rattle.reo_joint_values.specs.Values.{giver_side, AtSide}
use Rattle.reo_support.specs.Laws.{FullSetsStand}
use Rattle.reo_joint_values.proofs.Narrowing.{at_cases}
use Rattle.reo_joint_values.proofs.Inside.{at_inside}
use Rattle.reo_support.proofs.Rows.{stands, value_stands}

-- One of the first n joints is at a side, or none.
some_joint : (net : Net) (side n : ℕ) → ((j : ℕ) × (j < n) × AtSide net j side) ⊎ ((j : ℕ) → j < n → AtSide net j side → ⊥)
some_joint net side zero = inr (λ j lt at. omega arith)
some_joint net side (suc n) = elim (at_cases net n side) [
  | inl at ↦ inl (n, omega arith, at)
  | inr off ↦ elim (some_joint net side n) [
    | inl found ↦ inl (found.0, omega (arith, found.1), found.2)
    | inr none ↦ inr (λ j lt at. elim (cases_eq j n) [
      | inl e ↦ off (subst (λ (k : ℕ). AtSide net k side) e at)
      | inr other ↦ none j (omega (arith, other)) at
    ])
  ]
]

-- The table of each side has a row.
row_zero : (net : Net) → IsWired net → (side : ℕ) → side < side_count net → IsRowOf net side 0
row_zero net wired side lt d =
    let o = owner_of net.primitives side lt in
    rw (owner_side net.primitives side o d) ((wired.lawful o.primitive o.primitive_in).some_row o.number o.number_in)

pub full_sets_stand : FullSetsStand
full_sets_stand net wired names inside sets knot supported single full =
    let side : ℕ = knot.some.0 in
    let is : inside side ≡ true = knot.some.2 in
    elim (some_joint net side (length net.joints)) [
      | inl found ↦
          let value = full found.0 found.1 (at_inside net inside knot.closed found.0 side (giver_side net found.0) found.1 found.2 (inl refl) is) in
          let s = value_stands net wired names inside sets knot supported single found.0 side value.0 found.1 found.2 is value.1 in
          (s.2.rows, s.2.choice, s.2.chosen)
      | inr none ↦
          let s =
          stands net wired names inside sets knot supported single side 0 (λ j. Jam) is
          (record { in_table = row_zero net wired side knot.some.1; gives = λ j lt at. absurd (none j lt (inl at)); takes = λ j lt at. absurd (none j lt (inr at)) })
          (λ j lt at. absurd (none j lt at)) in
          (s.rows, s.choice, s.chosen)
    ]
