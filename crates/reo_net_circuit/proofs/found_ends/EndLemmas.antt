-- The joint of an end, by its giver and by its taker.
use Rattle.std.proofs.Common.{◌≡◌, inl, inr, ℕ, ◌<◌, Bool, true, false, List, length, get_or, ap, sym, ◌∙◌, arith}
use Rattle.reo_net_base.specs.declared.joint.End.{End}
use Rattle.reo_net_base.specs.declared.joint.Joint.{Joint}
use Rattle.reo_net_base.specs.Net.{Net, behaviour_at, end_eq, is_at}
use Rattle.reo_net_base.specs.Ends.{IsGiver, IsTaker}
use Rattle.reo_net_base.specs.Wired.{IsWired, IsEnd}
use Rattle.reo_net_circuit.specs.found_ends.Ends.{joint_at, HasEnd, AreEnds}
use Rattle.reo_net_circuit.specs.found_ends.Laws.{EndsFindJoints}
use Rattle.std.proofs.lemmas.Bool.{or_left, or_right, or_cases}
use Rattle.reo_net_base.proofs.Ends.{end_is, end_self}

takes : Net → End → Bool
takes net e = (behaviour_at net.primitives e.primitive).takes_in e.end

-- A table of all ends has each end.
pub has_joint : (net : Net) (table : List (List ℕ)) → AreEnds net table → (e : End) → IsEnd net.primitives e → HasEnd table e
has_joint net table are e is = (omega (arith, are.one_list, is.0), omega (arith, are.one_each e.primitive is.0, is.1))

module _ (net : Net) (wired : IsWired net) (table : List (List ℕ)) (are : AreEnds net table) where
  -- The joint that an end is found at is the one that it is at.
  found_at : (e : End) (j : ℕ) (d : Joint) → IsEnd net.primitives e → j < length net.joints → is_at e (get_or net.joints j d) ≡ true → joint_at table e ≡ j
  found_at e j d is lt at =
      let joined = wired.each_end e.primitive e.end is.0 is.1 in
      joined.only (joint_at table e) d (are.in_range e is) (are.here e d is) ∙ sym (joined.only j d lt at)

  pub giver_at : (e : End) (d : Joint) → IsGiver net e → (get_or net.joints (joint_at table e) d).giver ≡ e
  unfolding takes
  giver_at e d is =
      let joint : Joint = get_or net.joints (joint_at table e) d in
      elim (or_cases (end_eq joint.giver e) (end_eq joint.taker e) (are.here e d is.is_end)) [
        | inl here ↦ end_is joint.giver e here
        | inr other ↦
            let wrong : true ≡ false = sym (wired.takes (joint_at table e) d (are.in_range e is.is_end)) ∙ ap (takes net) (end_is joint.taker e other) ∙ is.gives in
            cc
      ]

  pub taker_at : (e : End) (d : Joint) → IsTaker net e → (get_or net.joints (joint_at table e) d).taker ≡ e
  unfolding takes
  taker_at e d is =
      let joint : Joint = get_or net.joints (joint_at table e) d in
      elim (or_cases (end_eq joint.giver e) (end_eq joint.taker e) (are.here e d is.is_end)) [
        | inl other ↦
            let wrong : false ≡ true = sym (wired.gives (joint_at table e) d (are.in_range e is.is_end)) ∙ ap (takes net) (end_is joint.giver e other) ∙ is.takes in
            cc
        | inr here ↦ end_is joint.taker e here
      ]

  pub of_giver : (j : ℕ) (d : Joint) → j < length net.joints → joint_at table (get_or net.joints j d).giver ≡ j
  of_giver j d lt =
      let joint : Joint = get_or net.joints j d in
      found_at joint.giver j d (wired.givers j d lt) lt (or_left (end_eq joint.giver joint.giver) (end_eq joint.taker joint.giver) (end_self joint.giver))

  pub of_taker : (j : ℕ) (d : Joint) → j < length net.joints → joint_at table (get_or net.joints j d).taker ≡ j
  of_taker j d lt =
      let joint : Joint = get_or net.joints j d in
      found_at joint.taker j d (wired.takers j d lt) lt (or_right (end_eq joint.giver joint.taker) (end_eq joint.taker joint.taker) (end_self joint.taker))

pub find_joints : EndsFindJoints
find_joints net wired table are = record {
  giver = giver_at net wired table are;
  taker = taker_at net wired table are;
  of_giver = of_giver net wired table are;
  of_taker = of_taker net wired table are;
}
