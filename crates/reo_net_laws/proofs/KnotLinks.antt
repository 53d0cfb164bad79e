-- Labels of linked sides.
use Rattle.std.proofs.Common.{◌≡◌, ◌⊎◌, inl, inr, ℕ, ◌+◌, ◌<◌, ◌↔◌, List, [], ◌∷◌, ◌++◌, Bool, false, length, get_or, refl, ap, sym, ◌∙◌, arith, below_more, IsTrue, length-append}
use Rattle.std.specs.Bool.{◌==◌}
use Rattle.std.proofs.Math.Seq.{get_or-append_seam}
use Rattle.std.proofs.lemmas.Bool.{cases_eq, eqb-true, eq-eqb}
use Rattle.std.proofs.lemmas.Bool.Decides.{nat_tests}
use Rattle.std.proofs.lemmas.List.{get_or_append_left}
use Rattle.reo_net_base.specs.declared.joint.Joint.{Joint}
use Rattle.reo_net_base.specs.Net.{Net, side_at}
use Rattle.reo_net_base.specs.Sides.{side_count}
use Rattle.reo_net_base.specs.Wired.{IsWired}
use Rattle.reo_net_laws.specs.Parts.{IsClosedBelow, IsLinked}
use Rattle.reo_net_laws.proofs.Sides.{side_in_range}
use Rattle.reo_net_laws.specs.Knots.{IsLoop}
use Rattle.reo_net_laws.specs.KnotLabels.{AreOwn, AreLabels, AreLoops, AreRelabelled, AreMerged, same_label, renamed}
use Rattle.reo_net_laws.proofs.KnotLabels.{renamed_same, renamed_other}

-- Where labels are the same along the first n joints, they are the same wherever these link.
same_from_linked : (net : Net) (n : ℕ) (labels : List ℕ) → ((j : ℕ) (d : Joint) → j < n → same_label labels (side_at net (get_or net.joints j d).giver) (side_at net (get_or net.joints j d).taker))
    → (s t : ℕ) → IsLinked net n s t → same_label labels s t
same_from_linked net n labels along s t h =
    let label : ℕ = get_or labels s 0 in
    let same = h (λ x. get_or labels x 0 == label) (record { along = λ j d lt i. along j d lt i == label }) in
    sym (eqb-true (get_or labels t 0) label (sym same ∙ eq-eqb label label refl))

-- No joint links a side to another one.
pub own_labels : (net : Net) (labels : List ℕ) → AreOwn labels (side_count net) → AreLabels net 0 labels
own_labels net labels own = record {
  one_each = own.one_each;
  exact = λ s t s_in t_in. (
    λ e inside closed. ap inside (sym (own.own s s_in) ∙ e ∙ own.own t t_in),
    λ h. same_from_linked net 0 labels (λ j d lt. absurd (omega arith)) s t h,
  );
}

closed_before : (net : Net) (n : ℕ) (inside : ℕ → Bool) → IsClosedBelow net (n + 1) inside → IsClosedBelow net n inside
closed_before net n inside closed = record { along = λ j d lt. closed.along j d (omega arith) }

-- Equal labels after one was renamed were equal, or were the two.
renamed_cases : (from to a b : ℕ) → renamed from to a ≡ renamed from to b → (a ≡ b) ⊎ (((a ≡ from) × (b ≡ to)) ⊎ ((a ≡ to) × (b ≡ from)))
renamed_cases from to a b e = elim (cases_eq a from) [
  | inl a_is ↦ elim (cases_eq b from) [
    | inl b_is ↦ inl (a_is ∙ sym b_is)
    | inr b_other ↦ inr (inl (a_is, sym (renamed_other from to b b_other) ∙ sym e ∙ renamed_same from to a a_is))
  ]
  | inr a_other ↦ elim (cases_eq b from) [
    | inl b_is ↦ inr (inr (sym (renamed_other from to a a_other) ∙ e ∙ renamed_same from to b b_is, b_is))
    | inr b_other ↦ inl (sym (renamed_other from to a a_other) ∙ e ∙ renamed_other from to b b_other)
  ]
]

-- One more joint, between sides p and q.
module _ (net : Net) (wired : IsWired net) (n : ℕ) (n_in : n < length net.joints) (old new : List ℕ) (are : AreLabels net n old) where
  along_old : (j : ℕ) (d : Joint) → j < n → (giver : side_at net (get_or net.joints j d).giver < side_count net) × (taker : side_at net (get_or net.joints j d).taker < side_count net)
      × same_label old (side_at net (get_or net.joints j d).giver) (side_at net (get_or net.joints j d).taker)
  along_old j d lt =
      let j_in : j < length net.joints = omega arith in
      let giver = side_in_range net wired (get_or net.joints j d).giver (wired.givers j d j_in) in
      let taker = side_in_range net wired (get_or net.joints j d).taker (wired.takers j d j_in) in
      (giver, taker, (are.exact (side_at net (get_or net.joints j d).giver) (side_at net (get_or net.joints j d).taker) giver taker).1 (λ inside closed. closed.along j d lt))

  module _ (p q : ℕ) (p_in : p < side_count net) (q_in : q < side_count net) (p_is : (d : Joint) → side_at net (get_or net.joints n d).giver ≡ p) (q_is : (d : Joint) → side_at net (get_or net.joints n d).taker ≡ q) where
    link : (inside : ℕ → Bool) → IsClosedBelow net (n + 1) inside → (d : Joint) → inside p ≡ inside q
    link inside closed d = rw (p_is d, q_is d) at (closed.along n d (omega arith))

    module _ (from to : ℕ) (changed : AreRelabelled old new from to) (first second : ℕ) (first_in : first < side_count net) (second_in : second < side_count net) (first_is : get_or old first 0 ≡ from) (second_is : get_or old second 0 ≡ to)
        (linked : (inside : ℕ → Bool) → IsClosedBelow net (n + 1) inside → inside first ≡ inside second)
        (meet : (d : Joint) → same_label new (side_at net (get_or net.joints n d).giver) (side_at net (get_or net.joints n d).taker)) where
      new_is : (s : ℕ) → s < side_count net → get_or new s 0 ≡ renamed from to (get_or old s 0)
      new_is s lt = changed.each s (omega (arith, are.one_each))

      renamed_linked : (s t : ℕ) → s < side_count net → t < side_count net → same_label new s t → IsLinked net (n + 1) s t
      renamed_linked s t s_in t_in e inside closed =
          let before = closed_before net n inside closed in
          elim (renamed_cases from to (get_or old s 0) (get_or old t 0) (sym (new_is s s_in) ∙ e ∙ new_is t t_in)) [
            | inl same ↦ (are.exact s t s_in t_in).0 same inside before
            | inr apart ↦ elim apart [
              | inl up ↦
                  (are.exact s first s_in first_in).0 (up.0 ∙ sym first_is) inside before ∙ linked inside closed ∙ (are.exact second t second_in t_in).0 (second_is ∙ sym up.1) inside before
              | inr down ↦
                  (are.exact s second s_in second_in).0 (down.0 ∙ sym second_is) inside before ∙ sym (linked inside closed) ∙ (are.exact first t first_in t_in).0 (first_is ∙ sym down.1) inside before
            ]
          ]

      along_new : (j : ℕ) (d : Joint) → j < n + 1 → same_label new (side_at net (get_or net.joints j d).giver) (side_at net (get_or net.joints j d).taker)
      along_new j d lt =
          below_more (λ (j : ℕ). (d : Joint) → same_label new (side_at net (get_or net.joints j d).giver) (side_at net (get_or net.joints j d).taker)) n
          (λ j j_lt d.
          let it = along_old j d j_lt in
          new_is (side_at net (get_or net.joints j d).giver) it.0 ∙ ap (renamed from to) it.2 ∙ sym (new_is (side_at net (get_or net.joints j d).taker) it.1))
          meet j lt d

      pub more_labels : AreLabels net (n + 1) new
      more_labels = record {
        one_each = changed.one_each ∙ are.one_each;
        exact = λ s t s_in t_in. (renamed_linked s t s_in t_in, same_from_linked net (n + 1) new along_new s t);
      }

    -- The two labels became one, whichever was renamed.
    pub linked_labels : (d : Joint) → AreMerged old new (get_or old p 0) (get_or old q 0) → AreLabels net (n + 1) new
    linked_labels d merged = elim merged [
      | inl down ↦
          more_labels (get_or old p 0) (get_or old q 0) down p q p_in q_in refl refl (λ inside closed. link inside closed d)
          (λ e. rw (p_is e, q_is e) (down.each p (omega (arith, are.one_each)) ∙ renamed_same (get_or old p 0) (get_or old q 0) (get_or old p 0) refl ∙ sym (stays (get_or old p 0) (get_or old q 0)) ∙ sym (down.each q (omega (arith, are.one_each)))))
      | inr up ↦
          more_labels (get_or old q 0) (get_or old p 0) up q p q_in p_in refl refl (λ inside closed. sym (link inside closed d))
          (λ e. rw (p_is e, q_is e) (up.each p (omega (arith, are.one_each)) ∙ stays (get_or old q 0) (get_or old p 0) ∙ sym (renamed_same (get_or old q 0) (get_or old p 0) (get_or old q 0) refl) ∙ sym (up.each q (omega (arith, are.one_each)))))
    ]
      where
        stays : (from to : ℕ) → renamed from to to ≡ to
        stays from to = grind (arith, nat_tests)

    -- The joint closes a loop exactly where its sides had one label.
    pub closes_loop : (closes : Bool) → (IsTrue closes ↔ same_label old p q) → IsTrue closes ↔ IsLoop net n
    closes_loop closes is = (
      λ h d. rw (p_is d, q_is d) ((are.exact p q p_in q_in).0 (is.0 h)),
      λ loop. is.1 ((are.exact p q p_in q_in).1 (rw (p_is some, q_is some) at (loop some))),
    )
      where
        some : Joint
        some = record { giver = record { primitive = 0; end = 0 }; taker = record { primitive = 0; end = 0 } }

pub more_loops : (net : Net) (n : ℕ) (loops : List Bool) (last : Bool) → AreLoops net n loops → (IsTrue last ↔ IsLoop net n) → AreLoops net (n + 1) (loops ++ last ∷ [])
more_loops net n loops last are here = record {
  one_each = omega (arith, length-append loops (last ∷ []), are.one_each);
  exact = below_more (λ (j : ℕ). IsTrue (get_or (loops ++ last ∷ []) j false) ↔ IsLoop net j) n
      (λ j lt. rw (get_or_append_left loops (last ∷ []) false j (omega (arith, are.one_each))) (are.exact j lt))
      (let read : get_or (loops ++ last ∷ []) n false ≡ last = ap (λ (k : ℕ). get_or (loops ++ last ∷ []) k false) (sym are.one_each) ∙ get_or-append_seam loops last [] false in rw read here);
}
