-- Narrowing lists of values by their flags.
use Rattle.std.proofs.Common.{◌≡◌, ◌↔◌, inl, inr, ℕ, ◌+◌, ◌<◌, ◌≤◌, Bool, true, false, ◌&&◌, List, [], length, get_or, refl, sym, ◌∙◌, arith}
use Rattle.std.proofs.lemmas.Bool.{cases_Bool, and_parts, and_from, cases_lt}
use Rattle.std.proofs.lemmas.List.{get_or_past}
use Rattle.reo_values.specs.declared.value.Value.{Value}
use Rattle.reo_net_base.specs.Net.{Net}
use Rattle.reo_net_laws.specs.Parts.{IsClosed}
use Rattle.reo_joint_values.specs.declared.value.JointValue.{JointValue}
use Rattle.reo_joint_values.specs.Values.{Names, Family, giver_side, AtSide}
use Rattle.reo_joint_values.specs.Supported.{IsInGreatest}
use Rattle.reo_joint_values.proofs.Inside.{at_inside}
use Rattle.reo_side_tables.specs.Marks.{IsJointOf}
use Rattle.reo_rows.specs.Sets.{code_of, family_of}
use Rattle.reo_rows.proofs.Codes.{flag_in}
use Rattle.reo_propagate.specs.Narrow.{AreGreatest}
use Rattle.reo_propagate.specs.ListedSets.{listed, AreKept, HaveSome, HaveFlags, AreLeft, AreInSupply, AreFullAt}

-- What is greatest within some sets is greatest within larger ones.
pub greatest_more : (net : Net) (names : Names) (inside : ℕ → Bool) (a b : Family)
    → ((j side : ℕ) (v : JointValue) → j < length net.joints → AtSide net j side → inside side ≡ true → a j v ≡ true → b j v ≡ true)
    → (j : ℕ) (v : JointValue) → IsInGreatest net names inside a j v → IsInGreatest net names inside b j v
greatest_more net names inside a b more j v g = record {
  family = g.family;
  within = λ i side w lt at is h. more i side w lt at is (g.within i side w lt at is h);
  supported = g.supported;
  has = g.has;
}

-- The joints where the sides give are all joints of the sides.
gives_inside : (net : Net) (inside : ℕ → Bool) → IsClosed net inside → (j side : ℕ) → IsJointOf net side j → inside side ≡ true → inside (giver_side net j) ≡ true
gives_inside net inside closed j side of is = at_inside net inside closed j side (giver_side net j) of.in_range of.here (inl refl) is

giver_of : (net : Net) (j : ℕ) → j < length net.joints → IsJointOf net (giver_side net j) j
giver_of net j lt = record { in_range = lt; here = inl refl }

module _ (net : Net) (names : Names) (inside : ℕ → Bool) (items : List (List Value)) (first alive : List (List Bool)) (sets : List (List JointValue))
    (numbers : AreInSupply net inside items (listed sets))
    (width : (j : ℕ) → j < length net.joints → length (get_or first j []) ≡ length (get_or items j []) + 4)
    (values : (j : ℕ) (v : JointValue) → j < length net.joints → code_of v < length (get_or items j []) + 4 → family_of first j v ≡ listed sets j v) where
  to_list : (j side : ℕ) (v : JointValue) → j < length net.joints → AtSide net j side → inside side ≡ true → family_of first j v ≡ true → listed sets j v ≡ true
  to_list j side v lt at is h = let there = flag_in first j (code_of v) h in sym (values j v lt (omega (arith, there, width j lt))) ∙ h

  to_flags : (j side : ℕ) (v : JointValue) → j < length net.joints → AtSide net j side → inside side ≡ true → listed sets j v ≡ true → family_of first j v ≡ true
  to_flags j side v lt at is h = values j v lt (numbers j side v (record { in_range = lt; here = at }) is h) ∙ h

  -- The values of the lists have their flags.
  pub flags_there : length sets ≡ length net.joints → ((j : ℕ) → length (get_or alive j []) ≡ length (get_or first j [])) → HaveFlags (λ j. inside (giver_side net j)) alive sets
  flags_there one_each alike j v is h = elim (cases_lt j (length net.joints)) [
    | inl lt ↦ let named = numbers j (giver_side net j) v (giver_of net j lt) is h in omega (arith, named, width j lt, alike j)
    | inr past ↦
        let none : get_or sets j [] ≡ [] = get_or_past sets j [] (omega (arith, past, one_each)) in
        let no : listed sets j v ≡ false = rw none refl in
        absurd cc
  ]

  -- What is left is the greatest within the lists.
  pub are_left : AreGreatest net names inside first alive → AreLeft net names inside (listed sets) alive
  are_left greatest j side v of is = (
    λ h. greatest_more net names inside (family_of first) (listed sets) to_list j v ((greatest j side v of.in_range of.here is).0 h),
    λ g. (greatest j side v of.in_range of.here is).1 (greatest_more net names inside (listed sets) (family_of first) to_flags j v g),
  )

-- And it is what is kept of them.
pub lists_greatest : (net : Net) (names : Names) (inside : ℕ → Bool) → IsClosed net inside → (alive : List (List Bool)) (old new : List (List JointValue))
    → AreKept (λ j. inside (giver_side net j)) alive old new → AreLeft net names inside (listed old) alive
    → (j side : ℕ) (v : JointValue) → IsJointOf net side j → inside side ≡ true → (listed new j v ≡ true) ↔ IsInGreatest net names inside (listed old) j v
lists_greatest net names inside closed alive old new kept left j side v of is =
    let both : listed new j v ≡ (listed old j v && family_of alive j v) = kept.here j v (gives_inside net inside closed j side of is) in (
      λ h. (left j side v of is).0 (and_parts (listed old j v) (family_of alive j v) (sym both ∙ h)).1,
      λ g. both ∙ and_from (listed old j v) (family_of alive j v) (g.within j side v of.in_range of.here is g.has) ((left j side v of is).1 g),
    )

-- Other lists are as they were.
pub lists_other : (net : Net) (inside : ℕ → Bool) (alive : List (List Bool)) (old new : List (List JointValue)) → length old ≡ length net.joints
    → AreKept (λ j. inside (giver_side net j)) alive old new → (j : ℕ) → ((side : ℕ) → IsJointOf net side j → inside side ≡ true → ⊥) → get_or new j [] ≡ get_or old j []
lists_other net inside alive old new one_each kept j outside = elim (cases_lt j (length net.joints)) [
  | inr past ↦
      let old_past : length old ≤ j = omega (arith, past, one_each) in
      let new_past : length new ≤ j = omega (arith, old_past, kept.one_each) in
      get_or_past new j [] new_past ∙ sym (get_or_past old j [] old_past)
  | inl lt ↦ elim (cases_Bool (inside (giver_side net j))) [
    | inl is ↦ absurd (outside (giver_side net j) (giver_of net j lt) is)
    | inr off ↦ kept.other j off
  ]
]

-- The lists where the sides give are those of all joints of the sides.
pub lists_full : (net : Net) (inside : ℕ → Bool) → IsClosed net inside → (sets : List (List JointValue)) → length sets ≡ length net.joints
    → HaveSome (λ j. inside (giver_side net j)) sets ↔ AreFullAt net inside (listed sets)
lists_full net inside closed sets one_each = (
  λ some j side of is. some j (let lt = of.in_range in omega (arith, lt, one_each)) (gives_inside net inside closed j side of is),
  λ full j lt is. full j (giver_side net j) (giver_of net j (omega (arith, lt, one_each))) is,
)
