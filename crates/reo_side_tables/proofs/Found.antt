-- The joints at the ends of a side.
use Rattle.std.proofs.Common.{◌≡◌, ◌≢◌, inl, inr, ℕ, ◌+◌, ◌<◌, Bool, true, false, cond, List, [], ◌∷◌, ◌++◌, length, get_or, refl, ap, sym, ◌∙◌, subst, arith}
use Rattle.std.specs.Bool.{◌==◌}
use Rattle.std.proofs.lemmas.Bool.{cases_eq, eq-eqb, ne_eqb}
use Rattle.reo_net_base.specs.declared.joint.End.{End}
use Rattle.reo_net_base.specs.Net.{Net, behaviour_at, first_side, end_of, side_at}
use Rattle.reo_net_base.specs.Wired.{IsWired}
use Rattle.reo_net_circuit.specs.found_ends.Ends.{joint_at, AreEnds}
use Rattle.reo_net_circuit.proofs.found_ends.EndLemmas.{giver_at, taker_at, of_giver, of_taker}
use Rattle.reo_joint_values.specs.Values.{no_joint, joint_of, giver_side}
use Rattle.reo_side_tables.specs.Listing.{StandsIn, Lists, AreOnce}
use Rattle.reo_side_tables.specs.Marks.{end_at, IsJointOf}
use Rattle.reo_side_tables.proofs.Growing.{stands_old, stands_new, all_more, once_more}
use Rattle.reo_side_tables.proofs.Sides.{at_is, at_in, primitive_is}

-- A joint at an end of a side before this one.
pub record IsJointBefore (net : Net) (ends : List (List ℕ)) (i s n j : ℕ) : Type 0 where
  pub end : ℕ
  pub before : end < n
  pub here : (behaviour_at net.primitives i).side_of end ≡ s
  pub joint : j ≡ joint_at ends (end_of i end)

before_more : (net : Net) (ends : List (List ℕ)) (i s n j : ℕ) → IsJointBefore net ends i s n j → IsJointBefore net ends i s (n + 1) j
before_more net ends i s n j b = record { end = b.end; before = omega (arith, b.before); here = b.here; joint = b.joint }

-- The joints at the ends of a side before this one.
pub record AreFound (net : Net) (ends : List (List ℕ)) (side i s n : ℕ) (joints : List ℕ) : Type 0 where
  pub sound : (m : ℕ) → m < length joints → IsJointOf net side (get_or joints m 0)
  pub whole : (e : ℕ) → e < n → (behaviour_at net.primitives i).side_of e ≡ s → StandsIn joints (joint_at ends (end_of i e))
  pub from : (m : ℕ) → m < length joints → IsJointBefore net ends i s n (get_or joints m 0)
  pub once : AreOnce joints

pub found_none : (net : Net) (ends : List (List ℕ)) (side i s : ℕ) → AreFound net ends side i s 0 []
found_none net ends side i s = record { sound = λ m lt. absurd (omega arith); whole = λ e lt h. absurd (omega arith); from = λ m lt. absurd (omega arith); once = λ m k lt k_in. absurd (omega arith) }

module _ (net : Net) (wired : IsWired net) (ends : List (List ℕ)) (are : AreEnds net ends) (side i s : ℕ) (i_in : i < length net.primitives) (s_in : s < (behaviour_at net.primitives i).sides) (place : side ≡ first_side net.primitives i + s) where
  module _ (e : ℕ) (e_in : e < (behaviour_at net.primitives i).ends) (here : (behaviour_at net.primitives i).side_of e ≡ s) where
    abbrev at : End
    at = end_of i e

    side_of_end : side_at net at ≡ side
    unfolding side_at
    side_of_end = ap (λ (x : ℕ). first_side net.primitives i + x) here ∙ sym place

    way : (t : Bool) → (behaviour_at net.primitives i).takes_in e ≡ t → IsJointOf net side (joint_at ends at)
    way true takes = record {
      in_range = are.in_range at (i_in, e_in);
      here = inr (ap (side_at net) (taker_at net wired ends are at no_joint (record { is_end = (i_in, e_in); takes = takes })) ∙ side_of_end);
    }
    way false gives = record {
      in_range = are.in_range at (i_in, e_in);
      here = inl (ap (side_at net) (giver_at net wired ends are at no_joint (record { is_end = (i_in, e_in); gives = gives })) ∙ side_of_end);
    }

    pub joint_here : IsJointOf net side (joint_at ends at)
    joint_here = way ((behaviour_at net.primitives i).takes_in e) refl

  -- Its joint tells the end.
  end_for : (e : ℕ) → e < (behaviour_at net.primitives i).ends → (behaviour_at net.primitives i).side_of e ≡ s → (t : Bool) → (behaviour_at net.primitives i).takes_in e ≡ t → end_at net side (joint_at ends (end_of i e)) ≡ end_of i e
  end_for e e_in here true takes =
      let j : ℕ = joint_at ends (end_of i e) in
      let taker : (joint_of net j).taker ≡ end_of i e = taker_at net wired ends are (end_of i e) no_joint (record { is_end = (i_in, e_in); takes = takes }) in
      let apart : giver_side net j ≢ side = λ same. wired.apart j no_joint (are.in_range (end_of i e) (i_in, e_in)) (same ∙ sym (ap (side_at net) taker ∙ side_of_end e e_in here)) in
      ap (λ (b : Bool). cond b (joint_of net j).giver (joint_of net j).taker) (ne_eqb (giver_side net j) side apart) ∙ taker
  end_for e e_in here false gives =
      let j : ℕ = joint_at ends (end_of i e) in
      let giver : (joint_of net j).giver ≡ end_of i e = giver_at net wired ends are (end_of i e) no_joint (record { is_end = (i_in, e_in); gives = gives }) in
      ap (λ (b : Bool). cond b (joint_of net j).giver (joint_of net j).taker) (eq-eqb (giver_side net j) side (ap (side_at net) giver ∙ side_of_end e e_in here)) ∙ giver

  -- Two ends of the side have two joints.
  other_joint : (e n : ℕ) → e < n → n < (behaviour_at net.primitives i).ends → (behaviour_at net.primitives i).side_of e ≡ s → (behaviour_at net.primitives i).side_of n ≡ s → joint_at ends (end_of i e) ≢ joint_at ends (end_of i n)
  other_joint e n lt n_in e_here n_here same =
      let one = end_for e (omega arith) e_here ((behaviour_at net.primitives i).takes_in e) refl in
      let other = end_for n n_in n_here ((behaviour_at net.primitives i).takes_in n) refl in
      let is : end_of i e ≡ end_of i n = sym one ∙ ap (end_at net side) same ∙ other in
      let number : e ≡ n = ap (λ (x : End). x.end) is in
      omega arith

  pub found_more : (n joint : ℕ) (joints : List ℕ) → n < (behaviour_at net.primitives i).ends → (behaviour_at net.primitives i).side_of n ≡ s → joint ≡ joint_at ends (end_of i n) → AreFound net ends side i s n joints → AreFound net ends side i s (n + 1) (joints ++ joint ∷ [])
  found_more n joint joints lt here is are_found = record {
    sound = all_more (IsJointOf net side) joints joint are_found.sound (subst (IsJointOf net side) (sym is) (joint_here n lt here));
    whole = λ e e_lt h. elim (cases_eq e n) [
      | inl same ↦ subst (λ (x : ℕ). StandsIn (joints ++ joint ∷ []) (joint_at ends (end_of i x))) (sym same) (subst (StandsIn (joints ++ joint ∷ [])) is (stands_new joints joint))
      | inr other ↦ stands_old joints joint (joint_at ends (end_of i e)) (are_found.whole e (omega arith) h)
    ];
    from = all_more (IsJointBefore net ends i s (n + 1)) joints joint (λ m m_lt. before_more net ends i s n (get_or joints m 0) (are_found.from m m_lt)) (record { end = n; before = omega arith; here = here; joint = is });
    once = once_more joints joint (λ m m_lt same. let b = are_found.from m m_lt in other_joint b.end n b.before lt b.here here (sym b.joint ∙ same ∙ is)) are_found.once;
  }

  pub found_skip : (n : ℕ) (joints : List ℕ) → ((behaviour_at net.primitives i).side_of n ≡ s → ⊥) → AreFound net ends side i s n joints → AreFound net ends side i s (n + 1) joints
  found_skip n joints other are_found = record {
    sound = are_found.sound;
    whole = λ e e_lt h. elim (cases_eq e n) [
      | inl same ↦ absurd (other (ap (λ (x : ℕ). (behaviour_at net.primitives i).side_of x) (sym same) ∙ h))
      | inr before ↦ are_found.whole e (omega arith) h
    ];
    from = λ m m_lt. before_more net ends i s n (get_or joints m 0) (are_found.from m m_lt);
    once = are_found.once;
  }

  -- Each joint of the side is at an end of it.
  module _ (j : ℕ) (of : IsJointOf net side j) where
    found_for : (t : Bool) → joint_at ends (cond t (joint_of net j).giver (joint_of net j).taker) ≡ j
    found_for true = of_giver net wired ends are j no_joint of.in_range
    found_for false = of_taker net wired ends are j no_joint of.in_range

    its_end : end_at net side j ≡ end_of i (end_at net side j).end
    its_end = let p = primitive_is net wired side j of i s i_in s_in place in λ k. record { primitive = p k; end = (end_at net side j).end }

    pub in_ends : (end_at net side j).end < (behaviour_at net.primitives i).ends
    in_ends = subst (λ (e : End). e.end < (behaviour_at net.primitives e.primitive).ends) its_end (at_in net wired side j of).1

    side_number : (behaviour_at net.primitives i).side_of (end_at net side j).end ≡ s
    unfolding side_at
    side_number =
        let there : first_side net.primitives i + (behaviour_at net.primitives i).side_of (end_at net side j).end ≡ side = subst (λ (e : End). side_at net e ≡ side) its_end (at_is net wired side j of) in
        omega (arith, there, place)

    pub found_whole : (joints : List ℕ) → AreFound net ends side i s (behaviour_at net.primitives i).ends joints → StandsIn joints j
    found_whole joints found =
        subst (StandsIn joints) (ap (joint_at ends) (sym its_end) ∙ found_for (giver_side net j == side)) (found.whole (end_at net side j).end in_ends side_number)

  pub all_found : (n : ℕ) (joints : List ℕ) → n ≡ (behaviour_at net.primitives i).ends → AreFound net ends side i s n joints → Lists (IsJointOf net side) joints
  all_found n joints last found = record { sound = found.sound; whole = λ j of. found_whole j of joints (subst (λ (x : ℕ). AreFound net ends side i s x joints) last found) }
