-- Numbers of parts, and their loop joints.
use Rattle.std.proofs.Common.{◌≡◌, inl, inr, ℕ, zero, suc, ◌+◌, ◌<◌, ◌≤◌, List, [], ◌∷◌, ◌++◌, length, get_or, refl, ap, subst, arith}
use Rattle.std.specs.Prelude.{map, max}
use Rattle.std.specs.List.{range_with_len}
use Rattle.std.proofs.lemmas.Bool.{cases_eq}
use Rattle.std.proofs.lemmas.List.{get_or_default, get_or-map, length-map}
use Rattle.std.proofs.lemmas.List.FromFn.{get_or-map-range_with_len, length-map-range_with_len}
use Rattle.reo_net_base.specs.declared.joint.Joint.{Joint}
use Rattle.reo_net_base.specs.Net.{Net, side_at}
use Rattle.reo_net_base.specs.Sides.{side_count}
use Rattle.reo_net_base.specs.Wired.{IsWired}
use Rattle.reo_net_laws.specs.Parts.{SameKnot, IsLinked}
use Rattle.reo_weights.proofs.Sides.{side_in_range}
use Rattle.reo_net_laws.specs.Knots.{AreNumbers, IsLoop}
use Rattle.reo_net_laws.specs.KnotLabels.{AreLabels, same_label, renamed}
use Rattle.reo_net_laws.proofs.Knots.{numbered}
use Rattle.reo_net_laws.proofs.KnotLinks.{own_labels, linked_labels}
use Rattle.reo_net_laws.proofs.KnotNumbers.{more_numbered}
use Rattle.reo_joint_values.specs.Values.{joint_of, no_joint}
use Rattle.reo_weights.proofs.Decisions.{IsDecided, same_decided, some_decided}

-- A list of numbers for the first n sides, in the order of the least sides of each label.
number_list : (labels : List ℕ) (n : ℕ) → (numbers : List ℕ) × (count : ℕ) × AreNumbers (same_label labels) n numbers count
number_list labels zero = (
  [],
  zero,
  record {
    one_each = refl;
    in_range = λ s lt. absurd (omega arith);
    same = λ s t s_in t_in. absurd (omega arith);
    each = λ k lt. absurd (omega arith);
    by_least = λ s k s_in lt. absurd (omega arith);
  },
)
number_list labels (suc n) =
    let before = number_list labels n in
    let numbers : List ℕ = before.0 in
    let count : ℕ = before.1 in
    let next : n + 1 ≡ suc n = omega arith in
    elim (some_decided (λ (s : ℕ). same_label labels s n) n (λ s lt. cases_eq (get_or labels s 0) (get_or labels n 0))) [
      | inl some ↦
          let number : ℕ = get_or numbers some.0 0 in (
            numbers ++ number ∷ [],
            max count (number + 1),
            subst (λ (m : ℕ). AreNumbers (same_label labels) m (numbers ++ number ∷ []) (max count (number + 1))) next (more_numbered labels numbers n count before.2 number (record {
              at_most = omega (arith, before.2.in_range some.0 some.1);
              before = λ lt. (some.0, some.1, some.2, refl);
              next = λ last. absurd (omega (arith, last, before.2.in_range some.0 some.1));
            })),
          )
      | inr none ↦ (
        numbers ++ count ∷ [],
        max count (count + 1),
        subst (λ (m : ℕ). AreNumbers (same_label labels) m (numbers ++ count ∷ []) (max count (count + 1))) next (more_numbered labels numbers n count before.2 count (record {
          at_most = omega arith;
          before = λ lt. absurd (omega arith);
          next = λ last s lt same. none (s, lt, same);
        })),
      )
    ]

module _ (net : Net) (wired : IsWired net) where
  giver_in : (j : ℕ) → j < length net.joints → side_at net (joint_of net j).giver < side_count net
  giver_in j lt = side_in_range net wired (joint_of net j).giver (wired.givers j no_joint lt)

  taker_in : (j : ℕ) → j < length net.joints → side_at net (joint_of net j).taker < side_count net
  taker_in j lt = side_in_range net wired (joint_of net j).taker (wired.takers j no_joint lt)

  -- Labels of the sides that the first n joints link.
  label_list : (n : ℕ) → n ≤ length net.joints → (labels : List ℕ) × AreLabels net n labels
  label_list zero le =
      let own : List ℕ = map (λ (s : ℕ). s) (range_with_len 0 (side_count net)) in (
        own,
        own_labels net own (record {
          one_each = length-map-range_with_len (λ (s : ℕ). s) 0 (side_count net);
          own = λ s lt. get_or-map-range_with_len (λ (s : ℕ). s) 0 (side_count net) s s 0 lt (omega arith);
        }),
      )
  label_list (suc n) le =
      let lt : n < length net.joints = omega arith in
      let before = label_list n (omega arith) in
      let old : List ℕ = before.0 in
      let p : ℕ = side_at net (joint_of net n).giver in
      let q : ℕ = side_at net (joint_of net n).taker in
      let new : List ℕ = map (renamed (get_or old p 0) (get_or old q 0)) old in
      let labels : AreLabels net (n + 1) new =
      linked_labels net wired n lt old new before.1 p q (giver_in n lt) (taker_in n lt) (λ d. ap (λ (x : Joint). side_at net x.giver) (get_or_default net.joints n d no_joint lt))
      (λ d. ap (λ (x : Joint). side_at net x.taker) (get_or_default net.joints n d no_joint lt)) no_joint
      (inl (record { one_each = length-map old (renamed (get_or old p 0) (get_or old q 0)); each = λ s s_in. get_or-map (renamed (get_or old p 0) (get_or old q 0)) old s 0 0 s_in })) in
      let next : n + 1 ≡ suc n = omega arith in
      (new, subst (λ (m : ℕ). AreLabels net m new) next labels)

  -- Each circuit has numbers of its parts.
  pub part_numbers : (numbers : List ℕ) × (count : ℕ) × AreNumbers (SameKnot net) (side_count net) numbers count
  part_numbers =
      let labels = label_list (length net.joints) (omega arith) in
      let they = number_list labels.0 (length labels.0) in
      (they.0, they.1, numbered net labels.0 they.0 they.1 labels.1 they.2)

  -- Whether a joint closes a loop is decided.
  pub loop_decided : (j : ℕ) → j < length net.joints → IsDecided (IsLoop net j)
  loop_decided j lt =
      let labels = label_list j (omega arith) in
      let p : ℕ = side_at net (joint_of net j).giver in
      let q : ℕ = side_at net (joint_of net j).taker in
      same_decided
      (λ same d. subst (λ (x : Joint). IsLinked net j (side_at net x.giver) (side_at net x.taker)) (get_or_default net.joints j no_joint d lt) ((labels.1.exact p q (giver_in j lt) (taker_in j lt)).0 same))
      (λ loop. (labels.1.exact p q (giver_in j lt) (taker_in j lt)).1 (loop no_joint))
      (cases_eq (get_or labels.0 p 0) (get_or labels.0 q 0))
