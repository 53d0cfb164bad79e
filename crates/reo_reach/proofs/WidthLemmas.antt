-- Joints where more than 256 items can stand.
use Rattle.std.proofs.Common.{◌≡◌, ◌⊎◌, inl, inr, ℕ, zero, suc, ◌<◌, Bool, true, false, length, ap, sym, ◌∙◌, arith, below_more}
use Rattle.std.proofs.lemmas.Bool.{cases_Bool, cases_lt}
use Rattle.reo_net_base.specs.Net.{Net, side_at}
use Rattle.reo_net_base.specs.Wired.{IsWired}
use Rattle.reo_net_laws.specs.Parts.{IsClosed}
use Rattle.reo_joint_values.specs.Standing.{no_joint, giver_of}
use Rattle.reo_joint_values.specs.Many.{HasMany, IsJointIn}
use Rattle.reo_joint_values.proofs.Distinct.{distinct_fewer}
use Rattle.reo_reach.specs.Supplied.{Supplied, items_at, is_wide, Leads, IsClear, IsReached}
use Rattle.reo_reach.specs.Supplied.Leads.{here, on}
use Rattle.reo_reach.specs.Width.{ManyAreNotClear, PartsAreTold}
use Rattle.reo_joint_values.proofs.InOrder.{brings_feeds}

pub many_not_clear : ManyAreNotClear
many_not_clear net supplied j is has clear =
    let le = distinct_fewer has.items (items_at supplied j) has.distinct (λ x h. is.whole clear x (has.stand x h)) in
    omega (arith, le, has.many, is.few clear)

module _ (net : Net) (wired : IsWired net) (inside : ℕ → Bool) (closed : IsClosed net inside) where
  -- A path to a joint of the set starts in the set.
  pub leads_inside : (k j : ℕ) → Leads net k j → IsJointIn net inside j → IsJointIn net inside k
  leads_inside k j (here i) is = is
  leads_inside k j (on i m l row path brings) is =
      leads_inside i m path (brings.in_range, closed.along m no_joint brings.in_range ∙ ap inside (brings_feeds net wired l row m is.0 brings) ∙ is.1)

  module _ (supplied : Supplied) where
    -- The set has a wide joint of these numbers, or none.
    find_wide : (n : ℕ) → ((j : ℕ) × IsJointIn net inside j × (is_wide supplied j ≡ true)) ⊎ ((j : ℕ) → j < n → IsJointIn net inside j → is_wide supplied j ≡ false)
    find_wide zero = inr (λ j lt is. absurd (omega arith))
    find_wide (suc n) = elim (find_wide n) [
      | inl found ↦ inl found
      | inr none ↦ elim (one_wide n) [
        | inl found ↦ inl found
        | inr not_it ↦ inr (λ j lt is. below_more (λ (j : ℕ). IsJointIn net inside j → is_wide supplied j ≡ false) n none not_it j (omega arith) is)
      ]
    ]
      where
        one_wide : (n : ℕ) → ((j : ℕ) × IsJointIn net inside j × (is_wide supplied j ≡ true)) ⊎ (IsJointIn net inside n → is_wide supplied n ≡ false)
        one_wide n = elim (cases_lt n (length net.joints)) [
          | inr past ↦ inr (λ is. absurd (omega (arith, past, is.0)))
          | inl lt ↦ elim (cases_Bool (inside (side_at net (giver_of net n)))) [
            | inr out ↦ inr (λ is. let wrong : false ≡ true = sym out ∙ is.1 in absurd cc)
            | inl held ↦ elim (cases_Bool (is_wide supplied n)) [ inl wide ↦ inl (n, (lt, held), wide) | inr narrow ↦ inr (λ is. narrow) ]
          ]
        ]

    module _ (reached : (j : ℕ) → IsJointIn net inside j → IsReached net supplied j) where
      all_clear : ((j : ℕ) → IsJointIn net inside j → is_wide supplied j ≡ false) → (j : ℕ) → IsJointIn net inside j → IsClear net supplied j
      all_clear none j is k path = none k (leads_inside k j path is)

      pub told_wide : ((j : ℕ) × IsJointIn net inside j × (is_wide supplied j ≡ true)) → (j : ℕ) × IsJointIn net inside j × HasMany net j
      told_wide found =
          let is = reached found.0 found.1 in
          (found.0, found.1, record { items = items_at supplied found.0; distinct = is.distinct; many = is.many found.2; stand = is.sound })

      pub told_many : ((j : ℕ) × IsJointIn net inside j × HasMany net j) → (j : ℕ) × IsJointIn net inside j × (is_wide supplied j ≡ true)
      told_many has = elim (find_wide (length net.joints)) [
        | inl found ↦ found
        | inr none ↦ absurd (many_not_clear net supplied has.0 (reached has.0 has.1) has.2 (all_clear (λ j is. none j is.0 is) has.0 has.1))
      ]

pub parts_told : PartsAreTold
parts_told net wired inside closed supplied reached = record {
  wide = (told_wide net wired inside closed supplied reached, told_many net wired inside closed supplied reached);
  whole = λ none j item is. ((reached j is).sound item, (reached j is).whole (all_clear net wired inside closed supplied reached none j is) item);
}
