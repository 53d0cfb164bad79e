-- Labels and the sides that have them.
use Rattle.std.proofs.Common.{◌≡◌, ◌≢◌, ◌⊎◌, inl, inr, ℕ, ◌+◌, ◌<◌, ◌↔◌, List, [], ◌∷◌, ◌++◌, length, get_or, set, take, ap, sym, ◌∙◌, arith, below_more, length-append, length-set, get_or-set_same, get_or-set_other}
use Rattle.std.specs.Prelude.{Contains}
use Rattle.std.proofs.Math.Seq.{get_or-append_seam}
use Rattle.std.proofs.lemmas.Bool.{cases_eq}
use Rattle.std.proofs.lemmas.Bool.Decides.{nat_tests}
use Rattle.std.proofs.lemmas.List.{get_or_append_left, take_more}
use Rattle.std.proofs.lemmas.List.Elements.{Contains-push, Contains-push_cases, Contains-append_left, Contains-append_right, Contains-append_cases}
use Rattle.reo_net_laws.specs.KnotLabels.{AreOwn, AreOwnMembers, AreMembers, AreRelabelled, IsWritten, renamed}

-- One more side alone.
pub more_alone : (members : List (List ℕ)) (n : ℕ) (last : List ℕ) → AreOwnMembers members n → ((s : ℕ) → Contains last s ↔ (s ≡ n)) → AreOwnMembers (members ++ last ∷ []) (n + 1)
more_alone members n last are here = record {
  one_each = omega (arith, length-append members (last ∷ []), are.one_each);
  alone = λ k s d lt.
      below_more (λ (k : ℕ). Contains (get_or (members ++ last ∷ []) k d) s ↔ (s ≡ k)) n
      (λ k k_lt. rw (get_or_append_left members (last ∷ []) d k (omega (arith, are.one_each))) (are.alone k s d k_lt))
      (let read : get_or (members ++ last ∷ []) n d ≡ last = ap (λ (k : ℕ). get_or (members ++ last ∷ []) k d) (sym are.one_each) ∙ get_or-append_seam members last [] d in rw read (here s))
      k lt;
}

-- Sides alone are the sides of their own labels.
pub own_members : (labels : List ℕ) (members : List (List ℕ)) (n : ℕ) → AreOwn labels n → AreOwnMembers members n → AreMembers labels members
own_members labels members n own are = record {
  one_each = are.one_each ∙ sym own.one_each;
  in_range = λ s lt. rw (own.own s (omega (arith, own.one_each))) lt;
  exact = λ k s d lt.
      let k_in : k < n = omega (arith, own.one_each) in (
        λ h. let same = (are.alone k s d k_in).0 h in
            (rw same lt, rw same (own.own k k_in)),
        λ h. (are.alone k s d k_in).1 (sym (own.own s (omega (arith, own.one_each, h.0))) ∙ h.1),
      );
}

-- One more side has the label.
pub more_written : (old new sides : List ℕ) (label i : ℕ) → i < length sides → get_or sides i 0 < length new → IsWritten old new (take i sides) label
    → IsWritten old (set new (get_or sides i 0) label) (take (i + 1) sides) label
more_written old new sides label i lt here is = rw (take_more sides i 0 lt) (record {
  one_each = length-set new (get_or sides i 0) label ∙ is.one_each;
  those = λ s h. elim (cases_eq s (get_or sides i 0)) [
    | inl same ↦ rw same (get_or-set_same new (get_or sides i 0) label 0 here)
    | inr other ↦ get_or-set_other new (get_or sides i 0) s label 0 other ∙ is.those s (before s h other)
  ];
  others = λ s none.
      let other : s ≢ get_or sides i 0 = λ same. none (rw same (Contains-push (take i sides) (get_or sides i 0))) in
      get_or-set_other new (get_or sides i 0) s label 0 other ∙ is.others s (λ h. none (Contains-append_left (take i sides) (get_or sides i 0 ∷ []) s h));
})
  where
    before : (s : ℕ) → Contains (take i sides ++ get_or sides i 0 ∷ []) s → s ≢ get_or sides i 0 → Contains (take i sides) s
    before s h other = elim (Contains-push_cases (take i sides) (get_or sides i 0) s h) [
      | inl there ↦ there
      | inr same ↦ absurd (other (sym same))
    ]

pub renamed_same : (from to label : ℕ) → label ≡ from → renamed from to label ≡ to
renamed_same from to label h = grind (arith, nat_tests)

pub renamed_other : (from to label : ℕ) → label ≢ from → renamed from to label ≡ label
renamed_other from to label h = grind (arith, nat_tests)

-- Writing a label to the sides of another renames it.
pub renames : (old new : List ℕ) (members : List (List ℕ)) (from to : ℕ) → AreMembers old members → from < length old → IsWritten old new (get_or members from []) to → AreRelabelled old new from to
renames old new members from to are from_in is = record {
  one_each = is.one_each;
  each = λ s lt. elim (cases_eq (get_or old s 0) from) [
    | inl same ↦ is.those s ((are.exact from s [] from_in).1 (lt, same)) ∙ sym (renamed_same from to (get_or old s 0) same)
    | inr other ↦ is.others s (λ h. other ((are.exact from s [] from_in).0 h).1) ∙ sym (renamed_other from to (get_or old s 0) other)
  ];
}

-- The sides of labels after one was renamed.
module _ (old new : List ℕ) (members : List (List ℕ)) (from to : ℕ) (are : AreMembers old members) (from_in : from < length old) (to_in : to < length old) (apart : from ≢ to)
    (is : AreRelabelled old new from to) where
  moved : List (List ℕ)
  moved = set (set members from []) to (get_or members to [] ++ get_or members from [])

  new_at_to : (s : ℕ) → s < length new → get_or new s 0 ≡ to → (get_or old s 0 ≡ from) ⊎ (get_or old s 0 ≡ to)
  new_at_to s lt e = elim (cases_eq (get_or old s 0) from) [
    | inl same ↦ inl same
    | inr other ↦ inr (sym (renamed_other from to (get_or old s 0) other) ∙ sym (is.each s (omega (arith, is.one_each))) ∙ e)
  ]

  at_to : (s : ℕ) → Contains (get_or members to [] ++ get_or members from []) s ↔ ((s < length new) × (get_or new s 0 ≡ to))
  at_to s = (
    λ h. elim (Contains-append_cases (get_or members to []) (get_or members from []) s h) [
      | inl there ↦
          let it = (are.exact to s [] to_in).0 there in
          let other : get_or old s 0 ≢ from = λ e. apart (sym e ∙ it.1) in
          (omega (arith, it.0, is.one_each), is.each s it.0 ∙ renamed_other from to (get_or old s 0) other ∙ it.1)
      | inr there ↦
          let it = (are.exact from s [] from_in).0 there in
          (omega (arith, it.0, is.one_each), is.each s it.0 ∙ renamed_same from to (get_or old s 0) it.1)
    ],
    λ h.
        let s_in : s < length old = omega (arith, h.0, is.one_each) in
        elim (new_at_to s h.0 h.1) [
          | inl same ↦ Contains-append_right (get_or members to []) (get_or members from []) s ((are.exact from s [] from_in).1 (s_in, same))
          | inr same ↦ Contains-append_left (get_or members to []) (get_or members from []) s ((are.exact to s [] to_in).1 (s_in, same))
        ],
  )

  no_more_from : (s : ℕ) → s < length new → get_or new s 0 ≢ from
  no_more_from s lt e =
      let each = is.each s (omega (arith, is.one_each)) in
      elim (cases_eq (get_or old s 0) from) [
        | inl same ↦ apart (sym e ∙ each ∙ renamed_same from to (get_or old s 0) same)
        | inr other ↦ other (sym (renamed_other from to (get_or old s 0) other) ∙ sym each ∙ e)
      ]

  at_other : (k s : ℕ) (d : List ℕ) → k < length old → k ≢ from → k ≢ to → Contains (get_or members k d) s ↔ ((s < length new) × (get_or new s 0 ≡ k))
  at_other k s d k_in not_from not_to = (
    λ h.
        let it = (are.exact k s d k_in).0 h in
        (omega (arith, it.0, is.one_each), is.each s it.0 ∙ renamed_other from to (get_or old s 0) (λ e. not_from (sym it.1 ∙ e)) ∙ it.1),
    λ h.
        let s_in : s < length old = omega (arith, h.0, is.one_each) in
        let each = is.each s s_in in
        (are.exact k s d k_in).1 (
          s_in,
          elim (cases_eq (get_or old s 0) from) [
            | inl same ↦ absurd (not_to (sym h.1 ∙ each ∙ renamed_same from to (get_or old s 0) same))
            | inr other ↦ sym (renamed_other from to (get_or old s 0) other) ∙ sym each ∙ h.1
          ],
        ),
  )

  pub still_members : AreMembers new (set (set members from []) to (get_or members to [] ++ get_or members from []))
  still_members = record {
    one_each = length-set (set members from []) to (get_or members to [] ++ get_or members from []) ∙ length-set members from [] ∙ are.one_each ∙ sym is.one_each;
    in_range = λ s lt.
        let s_in : s < length old = omega (arith, is.one_each) in
        rw (is.each s s_in, is.one_each) (elim (cases_eq (get_or old s 0) from) [
          | inl same ↦ rw (renamed_same from to (get_or old s 0) same) to_in
          | inr other ↦ rw (renamed_other from to (get_or old s 0) other) (are.in_range s s_in)
        ]);
    exact = λ k s d lt.
        let k_in : k < length old = omega (arith, is.one_each) in
        elim (cases_eq k to) [
          | inl same ↦
              rw same (rw (get_or-set_same (set members from []) to (get_or members to [] ++ get_or members from []) d (omega (arith, length-set members from [], are.one_each))) (at_to s))
          | inr not_to ↦
              rw (get_or-set_other (set members from []) to k (get_or members to [] ++ get_or members from []) d not_to) (elim (cases_eq k from) [
                | inl same ↦
                    rw same (rw (get_or-set_same members from [] d (omega (arith, are.one_each))) (λ h. absurd (omega (arith, h.1)), λ h. absurd (no_more_from s h.0 h.1)))
                | inr not_from ↦ rw (get_or-set_other members from k [] d not_from) (at_other k s d k_in not_from not_to)
              ])
        ];
  }
