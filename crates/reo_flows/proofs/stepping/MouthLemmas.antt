-- The joint at a mouth.
use Rattle.std.proofs.Common.{◌≡◌, ◌≢◌, ◌∙◌, inl, inr, ℕ, zero, suc, ◌<◌, ◌≤◌, ◌⊎◌, true, false, List, [], ◌∷◌, length, get_or, set, ap, sym, refl, arith}
use Rattle.std.specs.Prelude.{Option, None}
use Rattle.std.proofs.lemmas.Bool.Decides.{nat_tests}
use Rattle.std.proofs.lemmas.List.Sums.{passes_at_first, position_or_len_is}
use Rattle.reo_values.specs.declared.value.Value.{Value}
use Rattle.reo_net_base.specs.declared.joint.End.{End}
use Rattle.reo_net_base.specs.declared.joint.Joint.{Joint}
use Rattle.reo_net_base.specs.Behaviour.{Behaviour}
use Rattle.reo_net_base.specs.Ends.{IsTaker}
use Rattle.reo_net_base.specs.Net.{Net, behaviour_at, end_of}
use Rattle.reo_net_base.specs.Step.{is_mouth, mouth_of, taken_for}
use Rattle.reo_net_base.specs.Wired.{IsWired}
use Rattle.reo_net_circuit.specs.found_ends.Ends.{AreEnds, joint_at}
use Rattle.reo_net_circuit.proofs.found_ends.EndLemmas.{taker_at, of_taker}
use Rattle.reo_flows.proofs.stepping.FlowLemmas.{no_joint}
use Rattle.std.proofs.lemmas.Bool.{false_from_ne_true as not_true, cases_lt}
use Rattle.reo_net_circuit.proofs.StepLemmas.{mouth_test}

-- One of the two ends of a primitive with two sides is its mouth.
one_end : (s : ℕ → ℕ) (f e : ℕ) → s 0 ≢ s 1 → f < 2 → e < 2 → s f ≡ 0 → s e ≡ 0 → f ≡ e
one_end s zero zero apart f_in e_in h g = refl
one_end s zero (suc zero) apart f_in e_in h g = absurd (apart (h ∙ sym g))
one_end s (suc zero) zero apart f_in e_in h g = absurd (apart (g ∙ sym h))
one_end s (suc zero) (suc zero) apart f_in e_in h g = refl
one_end s zero (suc (suc e)) apart f_in e_in h g = absurd (omega arith)
one_end s (suc zero) (suc (suc e)) apart f_in e_in h g = absurd (omega arith)
one_end s (suc (suc f)) e apart f_in e_in h g = absurd (omega arith)

is_mouth_at : (b : Behaviour) (i : ℕ) (j : Joint) (end : ℕ) → b.sides ≡ 2 → b.side_of end ≡ 0 → j.taker ≡ end_of i end → is_mouth b i j ≡ true
is_mouth_at b i j end two side is =
    let p : j.taker.primitive ≡ i = ap (λ (x : End). x.primitive) is in
    let s : b.side_of j.taker.end ≡ 0 = ap (λ (x : End). b.side_of x.end) is ∙ side in
    grind (arith, nat_tests)

mouth_is_side : (b : Behaviour) (i : ℕ) (j : Joint) → is_mouth b i j ≡ true → b.side_of j.taker.end ≡ 0
mouth_is_side b i j h = grind (arith, nat_tests)

module _ (net : Net) (wired : IsWired net) (table : List (List ℕ)) (are : AreEnds net table) (i : ℕ) (i_in : i < length net.primitives) where
  -- The joint at the mouth is that of the end at side 0.
  pub mouth_is : (end : ℕ) → (behaviour_at net.primitives i).sides ≡ 2 → end < (behaviour_at net.primitives i).ends → (behaviour_at net.primitives i).side_of end ≡ 0
      → joint_at table (end_of i end) ≡ mouth_of net i
  mouth_is end two end_in side =
      let b : Behaviour = behaviour_at net.primitives i in
      let lawful = wired.lawful i i_in in
      let sided = lawful.two_sides two in
      let taker : IsTaker net (end_of i end) = record { is_end = (i_in, end_in); takes = sided.mouth end (end_in, side) } in
      let k : ℕ = joint_at table (end_of i end) in
      let k_in : k < length net.joints = are.in_range (end_of i end) (i_in, end_in) in
      let here : (get_or net.joints k no_joint).taker ≡ end_of i end = taker_at net wired table are (end_of i end) no_joint taker in
      let fails : (m : ℕ) → m < k → is_mouth b i (get_or net.joints m no_joint) ≡ false =
      λ m lt. not_true (is_mouth b i (get_or net.joints m no_joint)) (λ passes.
      let m_in : m < length net.joints = omega arith in
      let j : Joint = get_or net.joints m no_joint in
      let of : j.taker.primitive ≡ i = mouth_test b i j passes in
      let there : j.taker.end < b.ends = rw of at (wired.takers m no_joint m_in).1 in
      let ends = sided.ends in
      let same : j.taker.end ≡ end = one_end b.side_of j.taker.end end sided.apart (omega (arith, there, ends)) (omega (arith, end_in, ends)) (mouth_is_side b i j passes) side in
      let ended : j.taker ≡ end_of i end = (λ t. end_of (of t) (same t)) in
      let again : m ≡ k = sym (of_taker net wired table are m no_joint m_in) ∙ ap (joint_at table) ended in
      omega (arith, again, lt)) in
      sym (position_or_len_is (is_mouth b i) net.joints k no_joint (omega (arith, k_in)) fails (λ lt. is_mouth_at b i (get_or net.joints k no_joint) end two side here))

-- The end at side 0.
pub record IsMouthEnd (net : Net) (i end : ℕ) : Type 0 where
  pub is_end : end < (behaviour_at net.primitives i).ends
  pub side : (behaviour_at net.primitives i).side_of end ≡ 0

-- Of two sides, each with one end, the mouth is end 0 if that is of side 0, and else end 1.
pub mouth_end : (net : Net) → IsWired net → (i : ℕ) → i < length net.primitives → (behaviour_at net.primitives i).sides ≡ 2 → (end : ℕ)
    → ((end ≡ 0) × ((behaviour_at net.primitives i).side_of 0 ≡ 0)) ⊎ ((end ≡ 1) × ((behaviour_at net.primitives i).side_of 0 ≢ 0)) → IsMouthEnd net i end
mouth_end net wired i i_in two end (inl (is, side)) =
    let ends = ((wired.lawful i i_in).two_sides two).ends in
    record { is_end = omega (arith, ends, is); side = ap (behaviour_at net.primitives i).side_of is ∙ side }
mouth_end net wired i i_in two end (inr (is, other)) =
    let b : Behaviour = behaviour_at net.primitives i in
    let lawful = wired.lawful i i_in in
    let sided = lawful.two_sides two in
    let ends = sided.ends in
    let zero_in = lawful.sides_in 0 (omega (arith, ends)) in
    let one_in = lawful.sides_in 1 (omega (arith, ends)) in
    let first : b.side_of 0 ≡ 1 = omega (arith, two, zero_in, other) in
    let second : b.side_of 1 ≡ 0 = omega (arith, two, one_in, first, sided.apart) in
    record { is_end = omega (arith, ends, is); side = ap b.side_of is ∙ second }

module _ (net : Net) (wired : IsWired net) (table : List (List ℕ)) (are : AreEnds net table) (i : ℕ) (i_in : i < length net.primitives) where
  pub mouth_found : (behaviour_at net.primitives i).sides ≡ 2 → (end : ℕ) → IsMouthEnd net i end → joint_at table (end_of i end) ≡ mouth_of net i
  mouth_found two end is = mouth_is net wired table are i i_in end two is.is_end is.side

pub mouth_below : (net : Net) (table : List (List ℕ)) → AreEnds net table → (i : ℕ) → i < length net.primitives → (end : ℕ) → IsMouthEnd net i end → joint_at table (end_of i end) < length net.joints
mouth_below net table are i i_in end is = are.in_range (end_of i end) (i_in, is.is_end)

module _ (net : Net) (i : ℕ) where
  -- What has one side has no mouth.
  pub no_mouth : (items : List (Option Value)) → length items ≡ length net.joints → ((behaviour_at net.primitives i).sides ≡ 2 → ⊥) → taken_for net items i ≡ None
  no_mouth items count one = elim (cases_lt (mouth_of net i) (length net.joints)) [
    | inl lt ↦ absurd (one (two_of (behaviour_at net.primitives i) (get_or net.joints (mouth_of net i) no_joint) (passes_at_first (is_mouth (behaviour_at net.primitives i) i) net.joints no_joint lt)))
    | inr past ↦ past_end items (mouth_of net i) (omega (arith, count, past))
  ]
    where
      two_of : (b : Behaviour) (j : Joint) → is_mouth b i j ≡ true → b.sides ≡ 2
      two_of b j h = grind (arith, nat_tests)

      past_end : (xs : List (Option Value)) (k : ℕ) → length xs ≤ k → get_or xs k None ≡ None
      past_end [] k le = refl
      past_end (x ∷ xs) zero le = absurd (omega arith)
      past_end (x ∷ xs) (suc k) le = past_end xs k (omega arith)

  -- Where there is no mouth nothing is cleared.
  pub none_cleared : (items : List (Option Value)) → length items ≡ length net.joints → ((behaviour_at net.primitives i).sides ≡ 2 → ⊥) → set items (mouth_of net i) None ≡ items
  none_cleared items count one = elim (cases_lt (mouth_of net i) (length net.joints)) [
    | inl lt ↦ absurd (one (two_of (behaviour_at net.primitives i) (get_or net.joints (mouth_of net i) no_joint) (passes_at_first (is_mouth (behaviour_at net.primitives i) i) net.joints no_joint lt)))
    | inr far ↦ set_past items (mouth_of net i) (omega (arith, count, far))
  ]
    where
      two_of : (b : Behaviour) (j : Joint) → is_mouth b i j ≡ true → b.sides ≡ 2
      two_of b j h = grind (arith, nat_tests)

      set_past : (xs : List (Option Value)) (k : ℕ) → length xs ≤ k → set xs k None ≡ xs
      set_past [] k le = refl
      set_past (x ∷ xs) zero le = absurd (omega arith)
      set_past (x ∷ xs) (suc k) le = ap (λ (ys : List (Option Value)). x ∷ ys) (set_past xs k (omega arith))
