-- Labels of sides: one for all sides that joints link.
use Rattle.std.proofs.Common.{◌≡◌, inl, inr, ℕ, zero, suc, ◌<◌, ◌≤◌, Bool, length, refl, ap, sym, ◌∙◌, subst, arith}
use Rattle.std.specs.Bool.{◌==◌}
use Rattle.std.proofs.lemmas.Bool.{cases_eq, eqb-true, eq-eqb}
use Rattle.std.proofs.lemmas.List.{get_or_default}
use Rattle.reo_net_base.specs.Net.{Net}
use Rattle.reo_net_laws.specs.Parts.{IsLinked}
use Rattle.reo_joint_values.specs.Values.{giver_side, taker_side, no_joint}
use Rattle.reo_net_laws.specs.KnotLabels.{renamed}
use Rattle.reo_net_laws.proofs.KnotLabels.{renamed_same, renamed_other}

-- The label of a side where the first n joints link: the taker's label becomes the giver's.
abbrev pub label : (ℕ → ℕ) → (ℕ → ℕ) → ℕ → ℕ → ℕ
label giver taker zero k = k
label giver taker (suc n) k = renamed (label giver taker n (taker n)) (label giver taker n (giver n)) (label giver taker n k)

-- Labels that are one after a renaming were one, or were the two.
pub data Before (from to a b : ℕ) : Type 0 where
  one : a ≡ b → Before from to a b
  down : a ≡ from → b ≡ to → Before from to a b
  up : a ≡ to → b ≡ from → Before from to a b

before : (from to a b : ℕ) → renamed from to a ≡ renamed from to b → Before from to a b
before from to a b e = elim (cases_eq a from) [
  | inl a_is ↦ elim (cases_eq b from) [
    | inl b_is ↦ one (a_is ∙ sym b_is)
    | inr b_not ↦ down a_is (sym (renamed_other from to b b_not) ∙ sym e ∙ renamed_same from to a a_is)
  ]
  | inr a_not ↦ elim (cases_eq b from) [
    | inl b_is ↦ up (sym (renamed_other from to a a_not) ∙ e ∙ renamed_same from to b b_is) b_is
    | inr b_not ↦ one (sym (renamed_other from to a a_not) ∙ e ∙ renamed_other from to b b_not)
  ]
]

renamed_to : (from to : ℕ) → renamed from to to ≡ to
renamed_to from to = elim (cases_eq to from) [ inl e ↦ renamed_same from to to e | inr n ↦ renamed_other from to to n ]

module _ (giver taker : ℕ → ℕ) where
  -- The joint of number n links its two sides.
  pub label_joins : (n : ℕ) → label giver taker (suc n) (giver n) ≡ label giver taker (suc n) (taker n)
  label_joins n =
      renamed_to (label giver taker n (taker n)) (label giver taker n (giver n))
      ∙ sym (renamed_same (label giver taker n (taker n)) (label giver taker n (giver n)) (label giver taker n (taker n)) refl)

  -- What is linked stays linked.
  pub label_stays : (m n a b : ℕ) → m ≤ n → label giver taker m a ≡ label giver taker m b → label giver taker n a ≡ label giver taker n b
  label_stays m zero a b few e =
      let none : m ≡ zero = omega arith in
      subst (λ (k : ℕ). label giver taker k a ≡ label giver taker k b) none e
  label_stays m (suc n) a b few e = elim (cases_eq m (suc n)) [
    | inl now ↦ subst (λ (k : ℕ). label giver taker k a ≡ label giver taker k b) now e
    | inr earlier ↦ ap (renamed (label giver taker n (taker n)) (label giver taker n (giver n))) (label_stays m n a b (omega (arith, earlier)) e)
  ]

  -- Each of the first n joints links its two sides.
  pub label_along : (i n : ℕ) → i < n → label giver taker n (giver i) ≡ label giver taker n (taker i)
  label_along i n lt = label_stays (suc i) n (giver i) (taker i) (omega arith) (label_joins i)

  -- What the joint of number n has linked.
  pub label_before : (n a b : ℕ) → label giver taker (suc n) a ≡ label giver taker (suc n) b
      → Before (label giver taker n (taker n)) (label giver taker n (giver n)) (label giver taker n a) (label giver taker n b)
  label_before n a b e = before (label giver taker n (taker n)) (label giver taker n (giver n)) (label giver taker n a) (label giver taker n b) e

  -- A set out of which none of the first n joints leads has a side exactly where it has the side's label.
  closed_label : (inside : ℕ → Bool) (n : ℕ) → ((j : ℕ) → j < n → inside (giver j) ≡ inside (taker j)) → (k : ℕ) → inside (label giver taker n k) ≡ inside k
  closed_label inside zero along k = refl
  closed_label inside (suc n) along k =
      let below : (s : ℕ) → inside (label giver taker n s) ≡ inside s = closed_label inside n (λ j lt. along j (omega arith)) in
      elim (cases_eq (label giver taker n k) (label giver taker n (taker n))) [
        | inl e ↦
            ap inside (renamed_same (label giver taker n (taker n)) (label giver taker n (giver n)) (label giver taker n k) e)
            ∙ below (giver n) ∙ along n (omega arith) ∙ sym (below (taker n)) ∙ sym (ap inside e) ∙ below k
        | inr other ↦ ap inside (renamed_other (label giver taker n (taker n)) (label giver taker n (giver n)) (label giver taker n k) other) ∙ below k
      ]

-- The first n joints link two sides exactly where the sides have one label.
pub label_linked : (net : Net) (n a b : ℕ) → label (giver_side net) (taker_side net) n a ≡ label (giver_side net) (taker_side net) n b → IsLinked net n a b
label_linked net n a b e inside closed =
    let at_label = closed_label (giver_side net) (taker_side net) inside n (λ j lt. closed.along j no_joint lt) in
    sym (at_label a) ∙ ap inside e ∙ at_label b

pub linked_label : (net : Net) (n a b : ℕ) → n ≤ length net.joints → IsLinked net n a b → label (giver_side net) (taker_side net) n a ≡ label (giver_side net) (taker_side net) n b
linked_label net n a b few linked =
    let tag : ℕ → ℕ = λ k. label (giver_side net) (taker_side net) n k in
    let alike : (tag a == tag a) ≡ (tag b == tag a) = linked (λ k. tag k == tag a) (record {
      along = λ j d lt. rw (get_or_default net.joints j d no_joint (omega arith)) (ap (λ (m : ℕ). m == tag a) (label_along (giver_side net) (taker_side net) j n lt));
    }) in
    sym (eqb-true (tag b) (tag a) (sym alike ∙ eq-eqb (tag a) (tag a) refl))
