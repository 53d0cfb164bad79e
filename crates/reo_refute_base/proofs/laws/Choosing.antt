-- Whether some choice from lists has what can be told of each.
use Rattle.std.proofs.Common.{◌≡◌, inl, inr, ℕ, zero, suc, ◌<◌, List, Contains, ap, sym, ◌∙◌, subst, arith}
use Rattle.std.proofs.lemmas.Bool.{cases_eq}
use Rattle.reo_net_laws.proofs.Search.{Decided}
use Rattle.reo_joint_values.specs.declared.value.JointValue.{JointValue}
use Rattle.reo_joint_values.specs.declared.value.JointValue.TheVariants.{RG}
use Rattle.reo_joint_values.specs.Values.{Choice}
use Rattle.reo_joint_values.proofs.Changing.{chosen_at, chosen_here, chosen_other, HasChoice}
use Rattle.reo_refute_base.proofs.laws.Growing.{first_in}

-- Choices that agree before a joint, with one value there, agree up to it.
agree_more : (c e : Choice) (n : ℕ) (w : JointValue) → ((i : ℕ) → i < n → c i ≡ e i) → (i : ℕ) → i < suc n → chosen_at c n w i ≡ chosen_at e n w i
agree_more c e n w agree i lt = elim (cases_eq i n) [
  | inl here ↦ chosen_here c n w i here ∙ sym (chosen_here e n w i here)
  | inr other ↦ chosen_other c n w i other ∙ agree i (omega (arith, lt, other)) ∙ sym (chosen_other e n w i other)
]

-- Whether there is one can be told, if it can of each, and the values at these joints alone tell.
pub choice_told : (values : ℕ → List JointValue) (n : ℕ) (holds : Choice → Type 0) → ((c : Choice) → Decided (holds c)) → ((c e : Choice) → ((i : ℕ) → i < n → c i ≡ e i) → holds c → holds e) → Decided (HasChoice values n holds)
choice_told values zero holds d same =
    let none : Choice = λ i. RG in
    elim (d none) [
      | inl is ↦ inl (none, λ i lt. absurd (omega (arith, lt)), is)
      | inr fails ↦ inr (λ h. fails (same h.0 none (λ i lt. absurd (omega (arith, lt))) h.2))
    ]
choice_told values (suc n) holds d same =
    let with : JointValue → Choice → Type 0 = λ w c. holds (chosen_at c n w) in
    elim (first_in (values n) (λ (w : JointValue). HasChoice values n (with w)) (λ (w : JointValue). HasChoice values n (with w) → ⊥)
    (λ w has. choice_told values n (with w) (λ c. d (chosen_at c n w)) (λ c e agree h. same (chosen_at c n w) (chosen_at e n w) (agree_more c e n w agree) h))) [
      | inl some ↦
          let w : JointValue = some.0 in
          let c : Choice = some.2.0 in
          inl (
            chosen_at c n w,
            λ i lt. elim (cases_eq i n) [
              | inl here ↦ subst (λ (v : JointValue). Contains (values i) v) (sym (chosen_here c n w i here)) (subst (λ (k : ℕ). Contains (values k) w) (sym here) some.1)
              | inr other ↦ subst (λ (v : JointValue). Contains (values i) v) (sym (chosen_other c n w i other)) (some.2.1 i (omega (arith, lt, other)))
            ],
            some.2.2,
          )
      | inr none ↦ inr (λ h. none (h.0 n) (h.1 n (omega arith)) (
        h.0,
        λ i lt. h.1 i (omega (arith, lt)),
        same h.0 (chosen_at h.0 n (h.0 n)) (λ i lt. elim (cases_eq i n) [
          | inl here ↦ ap h.0 here ∙ sym (chosen_here h.0 n (h.0 n) i here)
          | inr other ↦ sym (chosen_other h.0 n (h.0 n) i other)
        ]) h.2,
      ))
    ]
