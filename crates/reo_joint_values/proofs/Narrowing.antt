-- What narrowing keeps.
use Rattle.std.proofs.Common.{◌≡◌, ◌⊎◌, inl, inr, ◌↔◌, ℕ, ◌<◌, Bool, true, length, refl, ap, sym, ◌∙◌, subst}
use Rattle.std.proofs.lemmas.Bool.{cases_eq, eqb-true, eq-eqb}
use Rattle.reo_net_base.specs.Net.{Net}
use Rattle.reo_net_base.specs.Wired.{IsWired}
use Rattle.reo_joint_values.specs.declared.value.JointValue.{JointValue}
use Rattle.reo_joint_values.specs.declared.value.JointValue.TheVariants.{Flow, RG, GR, GG, Jam}
use Rattle.reo_joint_values.specs.Values.{value_eq, Names, Choice, Family, giver_side, taker_side, AtSide}
use Rattle.reo_joint_values.specs.Fitting.{Fits, IsFrom}
use Rattle.reo_joint_values.specs.Supported.{IsUsed, IsSettledAt, IsSupported, IsWithin, IsInGreatest, IsNarrowed, IsThinned}
use Rattle.reo_joint_values.specs.Chosen.{IsChosen}
use Rattle.reo_joint_values.specs.Works.{RowWorks}
use Rattle.reo_joint_values.proofs.Works.{fits_works, works_possible}

pub value_same : (v : JointValue) → value_eq v v ≡ true
value_same (Flow n) = eq-eqb n n refl
value_same RG = refl
value_same GR = refl
value_same GG = refl
value_same Jam = refl

pub same_value : (v w : JointValue) → value_eq v w ≡ true → v ≡ w
same_value (Flow m) (Flow n) h = ap Flow (eqb-true m n h)
same_value RG RG h = refl
same_value GR GR h = refl
same_value GG GG h = refl
same_value Jam Jam h = refl
same_value v w h = cc

pub at_cases : (net : Net) (j side : ℕ) → AtSide net j side ⊎ (AtSide net j side → ⊥)
at_cases net j side = elim (cases_eq (giver_side net j) side) [
  | inl gives ↦ inl (inl gives)
  | inr gives_not ↦ elim (cases_eq (taker_side net j) side) [
    | inl takes ↦ inl (inr takes)
    | inr takes_not ↦ inr (λ at. elim at [ inl gives ↦ gives_not gives | inr takes ↦ takes_not takes ])
  ]
]

-- More values, more use.
pub used_more : (net : Net) (names : Names) (a b : Family) (side j : ℕ) (v : JointValue) → ((i : ℕ) (w : JointValue) → i < length net.joints → AtSide net i side → a i w ≡ true → b i w ≡ true)
    → IsUsed net names a side j v → IsUsed net names b side j v
used_more net names a b side j v more u = record { row = u.row; choice = u.choice; fits = u.fits; chosen = u.chosen; from = λ i lt at. more i (u.choice i) lt at (u.from i lt at) }

-- Use at a side hangs on the values at its joints alone.
pub settled_same : (net : Net) (names : Names) (side : ℕ) (old now : Family) → ((j : ℕ) (v : JointValue) → j < length net.joints → AtSide net j side → now j v ≡ old j v)
    → IsSettledAt net names old side → IsSettledAt net names now side
settled_same net names side old now same settled j v lt at has =
    used_more net names old now side j v (λ i w i_in i_at h. same i w i_in i_at ∙ h) (settled j v lt at (sym (same j v lt at) ∙ has))

module _ (net : Net) (names : Names) (inside : ℕ → Bool) where
  pub narrowed_at_first : (sets : Family) → IsNarrowed net names inside sets sets
  narrowed_at_first sets = record { smaller = λ j side v lt at is h. h; keeps = λ family within supported. within }

  pub narrowed_twice : (a b c : Family) → IsNarrowed net names inside a b → IsNarrowed net names inside b c → IsNarrowed net names inside a c
  narrowed_twice a b c p q = record {
    smaller = λ j side v lt at is h. p.smaller j side v lt at is (q.smaller j side v lt at is h);
    keeps = λ family within supported. q.keeps family (p.keeps family within supported) supported;
  }

  -- What is not used at some side of the set may go.
  pub narrowed_further : (old now new : Family) → IsNarrowed net names inside old now → IsWithin net inside new now
      → ((j side : ℕ) (v : JointValue) → j < length net.joints → AtSide net j side → inside side ≡ true → now j v ≡ true
      → (new j v ≡ true) ⊎ ((k : ℕ) × (AtSide net j k) × (inside k ≡ true) × (IsUsed net names now k j v → ⊥)))
      → IsNarrowed net names inside old new
  narrowed_further old now new narrowed less gone = record {
    smaller = λ j side v lt at is h. narrowed.smaller j side v lt at is (less j side v lt at is h);
    keeps = λ family within supported j side v lt at is h.
        let was = narrowed.keeps family within supported in
        elim (gone j side v lt at is (was j side v lt at is h)) [
          | inl stays ↦ stays
          | inr goes ↦
              let u = supported goes.0 goes.2 j v lt goes.1 h in
              absurd (goes.3 (used_more net names family now goes.0 j v (λ i w i_in i_at x. was i goes.0 w i_in i_at goes.2 x) u))
        ];
  }

  -- Narrowed to a supported family: that is the greatest.
  pub narrowed_whole : (old new : Family) → IsNarrowed net names inside old new → IsSupported net names inside new
      → (j side : ℕ) (v : JointValue) → j < length net.joints → AtSide net j side → inside side ≡ true → (new j v ≡ true) ↔ IsInGreatest net names inside old j v
  narrowed_whole old new narrowed supported j side v lt at is = (
    λ h. record { family = new; within = narrowed.smaller; supported = supported; has = h },
    λ g. narrowed.keeps g.family g.within g.supported j side v lt at is g.has,
  )

  -- The values of an assignment are a supported family.
  pub chosen_supported : (sets : Family) (rows : ℕ → ℕ) (choice : Choice) → IsChosen net names inside sets rows choice → IsSupported net names inside (λ j v. value_eq (choice j) v)
  chosen_supported sets rows choice a side is j v lt at h = record {
    row = rows side;
    choice = choice;
    fits = a.fits side is;
    chosen = same_value (choice j) v h;
    from = λ i i_in i_at. value_same (choice i);
  }

  pub chosen_within : (sets : Family) (rows : ℕ → ℕ) (choice : Choice) → IsChosen net names inside sets rows choice → IsWithin net inside (λ j v. value_eq (choice j) v) sets
  chosen_within sets rows choice a j side v lt at is h = subst (λ w. sets j w ≡ true) (same_value (choice j) v h) (a.from side is j lt at)

  -- Narrowing keeps each assignment, and brings no other.
  pub chosen_stays : (old new : Family) (rows : ℕ → ℕ) (choice : Choice) → IsNarrowed net names inside old new → IsChosen net names inside old rows choice → IsChosen net names inside new rows choice
  chosen_stays old new rows choice narrowed a = record {
    fits = a.fits;
    from = λ side is j lt at.
        narrowed.keeps (λ i v. value_eq (choice i) v) (chosen_within old rows choice a) (chosen_supported old rows choice a) j side (choice j) lt at is (value_same (choice j));
  }

  pub chosen_was : (old new : Family) (rows : ℕ → ℕ) (choice : Choice) → IsWithin net inside new old → IsChosen net names inside new rows choice → IsChosen net names inside old rows choice
  chosen_was old new rows choice within a = record { fits = a.fits; from = λ side is j lt at. within j side (choice j) lt at is (a.from side is j lt at) }

-- At a side, only what is not used there goes.
module _ (net : Net) (names : Names) (side : ℕ) (old now : Family) (thin : IsThinned net names side old now) where
  from_still : (row : ℕ) (choice : Choice) → Fits net names choice side row → IsFrom net old choice side → IsFrom net now choice side
  from_still row choice fits from j lt at = elim (thin.gone j (choice j) lt at (from j lt at)) [
    | inl stays ↦ stays
    | inr unused ↦ absurd (unused (record { row = row; choice = choice; fits = fits; chosen = refl; from = from }))
  ]

  pub used_still : (j : ℕ) (v : JointValue) → IsUsed net names old side j v → IsUsed net names now side j v
  used_still j v u = record { row = u.row; choice = u.choice; fits = u.fits; chosen = u.chosen; from = from_still u.row u.choice u.fits u.from }

  pub used_before : (j : ℕ) (v : JointValue) → IsUsed net names now side j v → IsUsed net names old side j v
  used_before j v u = used_more net names now old side j v (λ i w lt at h. thin.less i w h) u

  pub works_still : IsWired net → (row : ℕ) → RowWorks net names old side row → RowWorks net names now side row
  works_still wired row works =
      let p = works_possible net wired names old side row works in
      fits_works net wired names now side row p.choice p.fits (from_still row p.choice p.fits p.from)

pub thinned_none : (net : Net) (names : Names) (side : ℕ) (family : Family) → IsThinned net names side family family
thinned_none net names side family = record { less = λ j v h. h; gone = λ j v lt at h. inl h }

pub thinned_twice : (net : Net) (names : Names) (side : ℕ) (a b c : Family) → IsThinned net names side a b → IsThinned net names side b c → IsThinned net names side a c
thinned_twice net names side a b c p q = record {
  less = λ j v h. p.less j v (q.less j v h);
  gone = λ j v lt at h. elim (p.gone j v lt at h) [
    | inr unused ↦ inr unused
    | inl stays ↦ elim (q.gone j v lt at stays) [ inl too ↦ inl too | inr unused ↦ inr (λ u. unused (used_still net names side a b p j v u)) ]
  ];
}

-- Sets that are thinned at a side, and the same elsewhere, are narrowed.
pub narrowed_thinned : (net : Net) (names : Names) (inside : ℕ → Bool) (side : ℕ) (old now : Family) → inside side ≡ true → IsThinned net names side old now
    → ((j : ℕ) (v : JointValue) → j < length net.joints → (AtSide net j side → ⊥) → old j v ≡ true → now j v ≡ true) → IsNarrowed net names inside old now
narrowed_thinned net names inside side old now is thin elsewhere =
    narrowed_further net names inside old old now (narrowed_at_first net names inside old) (λ j s v lt at s_is h. thin.less j v h) (λ j s v lt at s_is h.
    elim (at_cases net j side) [
      | inr off ↦ inl (elsewhere j v lt off h)
      | inl here ↦ elim (thin.gone j v lt here h) [ inl stays ↦ inl stays | inr unused ↦ inr (side, here, is, unused) ]
    ])
