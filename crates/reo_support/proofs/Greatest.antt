-- The values of the greatest supported family stand.
use Rattle.std.proofs.Common.{◌≡◌, ◌⊎◌, inl, inr, ℕ, zero, suc, ◌<◌, ◌≤◌, Bool, true, false, length, refl, sym, ◌∙◌, arith}
use Rattle.std.proofs.lemmas.Bool.{cases_Bool, cases_lt}
use Rattle.reo_net_base.specs.Net.{Net}
use Rattle.reo_net_base.specs.Wired.{IsWired}
use Rattle.reo_net_laws.specs.Parts.{IsKnot}
use Rattle.reo_joint_values.specs.declared.value.JointValue.{JointValue}
use Rattle.reo_joint_values.specs.Values.{Names, Choice, Family, giver_side, AtSide}
use Rattle.reo_joint_values.specs.Supported.{IsInGreatest}
use Rattle.reo_joint_values.specs.Chosen.{IsChosen}
use Rattle.reo_support.specs.Sets.{OneAtLoops}
use Rattle.reo_support.specs.Laws.{HasValue}
use Rattle.reo_support.specs.ForestSupport.{IsGreatestFull, ForestSupport}
use Rattle.reo_support.proofs.Existence.{full_sets_stand}
use Rattle.reo_support.proofs.Rows.{value_stands}

module _ (net : Net) (wired : IsWired net) (names : Names) (inside : ℕ → Bool) (sets : Family) (knot : IsKnot net inside) (one : OneAtLoops net inside sets) where
  -- A value of the greatest family is one of a supported family, and stands by that.
  stands : (j side : ℕ) (v : JointValue) → j < length net.joints → AtSide net j side → inside side ≡ true → IsInGreatest net names inside sets j v → HasValue net names inside sets j v
  stands j side v lt at is g =
      let within = g.within in
      let single : OneAtLoops net inside g.family = λ i x y i_in here loop x_in y_in.
      one i x y i_in here loop (within i (giver_side net i) x i_in (inl refl) here x_in) (within i (giver_side net i) y i_in (inl refl) here y_in) in
      let s = value_stands net wired names inside g.family knot g.supported single j side v lt at is g.has in
      record {
        rows = s.2.rows;
        choice = s.2.choice;
        chosen = record {
          fits = s.2.chosen.fits;
          from = λ t t_is i i_in i_at. within i t (s.2.choice i) i_in i_at t_is (s.2.chosen.from t t_is i i_in i_at);
        };
        value_is = s.3;
      }

  -- A joint of the set, or none.
  some_joint : (n : ℕ) → n ≤ length net.joints → ((j : ℕ) × (j < length net.joints) × (inside (giver_side net j) ≡ true)) ⊎ ((j : ℕ) → j < n → inside (giver_side net j) ≡ true → ⊥)
  some_joint zero le = inr (λ j lt is. omega arith)
  some_joint (suc n) le = elim (cases_Bool (inside (giver_side net n))) [
    | inl here ↦ inl (n, omega arith, here)
    | inr out ↦ elim (some_joint n (omega arith)) [
      | inl found ↦ inl found
      | inr none ↦ inr (λ j lt is. elim (cases_lt j n) [
        | inl less ↦ none j less is
        | inr last ↦
            let same : j ≡ n = omega (arith, lt, last) in
            let there : inside (giver_side net n) ≡ true = rw (← same) is in
            let wrong : false ≡ true = sym out ∙ there in cc
      ])
    ]
  ]

  abbrev nothing : Family
  nothing j v = false

  -- Some assignment: by a value at some joint, or there is no joint.
  some : IsGreatestFull net names inside sets → (rows : ℕ → ℕ) × (choice : Choice) × IsChosen net names inside sets rows choice
  some full = elim (some_joint (length net.joints) (omega arith)) [
    | inl found ↦
        let value = full found.0 found.1 found.2 in
        let s = stands found.0 (giver_side net found.0) value.0 found.1 (inl refl) found.2 value.1 in
        (s.rows, s.choice, s.chosen)
    | inr none ↦
        let s = full_sets_stand net wired names inside nothing knot (λ side is j v lt at has. let wrong : false ≡ true = has in cc)
        (λ j v w lt is loop v_in w_in. absurd (none j lt is)) (λ j lt is. absurd (none j lt is)) in
        (s.0, s.1, record { fits = s.2.fits; from = λ t t_is i i_in i_at. let wrong : false ≡ true = s.2.from t t_is i i_in i_at in cc })
  ]

pub forest_support : ForestSupport
forest_support net wired names inside sets knot one full = record {
  some = some net wired names inside sets knot one full;
  each = stands net wired names inside sets knot one;
}
