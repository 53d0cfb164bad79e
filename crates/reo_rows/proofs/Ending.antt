-- The joint at an end of a side.
use Rattle.std.proofs.Common.{◌≡◌, inl, inr, ◌↔◌, ℕ, ◌+◌, ◌<◌, Bool, true, false, List, length, refl, ap, sym, ◌∙◌, subst}
use Rattle.reo_net_base.specs.declared.joint.End.{End}
use Rattle.reo_net_base.specs.Behaviour.{IsEndOf}
use Rattle.reo_net_base.specs.Net.{Net, Side, behaviour_at, first_side, end_of, side_at}
use Rattle.reo_net_base.specs.Wired.{IsWired, IsEnd}
use Rattle.reo_net_circuit.specs.found_ends.Ends.{joint_at, AreEnds}
use Rattle.reo_net_circuit.proofs.found_ends.EndLemmas.{find_joints}
use Rattle.reo_net_laws.proofs.Sides.{side_at_place}
use Rattle.reo_joint_values.specs.Values.{Family, no_joint, joint_of, giver_side, taker_side}
use Rattle.reo_side_tables.specs.Marks.{side_in, mark_at_joint}
use Rattle.reo_rows.specs.Stands.{HasMark, IsAtEnd, StandsAtEnd}
use Rattle.reo_rows.proofs.Plain.{giver_end, taker_end}
use Rattle.reo_rows.proofs.Apart.{same_joint}

module _ (net : Net) (wired : IsWired net) (ends : List (List ℕ)) (are : AreEnds net ends) (side i s : ℕ) (i_in : i < length net.primitives) (place : side ≡ first_side net.primitives i + s)
    (side_is : side_in net side ≡ record { of = behaviour_at net.primitives i; number = s }) (end : ℕ) (is_end : IsEndOf (side_in net side).of (side_in net side).number end) where
  end_there : IsEndOf (behaviour_at net.primitives i) s end
  end_there = subst (λ (x : Side). IsEndOf x.of x.number end) side_is is_end

  abbrev there : ℕ
  there = joint_at ends (end_of i end)

  is_there : IsEnd net.primitives (end_of i end)
  is_there = (i_in, end_there.0)

  of_end : side_at net (end_of i end) ≡ side
  of_end = side_at_place net (end_of i end) ∙ ap (λ (n : ℕ). first_side net.primitives i + n) end_there.1 ∙ sym place

  found_by : (t : Bool) → (behaviour_at net.primitives i).takes_in end ≡ t → IsAtEnd net side end (joint_at ends (end_of i end))
  found_by true takes =
      let is : (joint_of net there).taker ≡ end_of i end = (find_joints net wired ends are).taker (end_of i end) no_joint (record { is_end = is_there; takes = takes }) in
      let lt = are.in_range (end_of i end) is_there in
      let at : taker_side net there ≡ side = ap (side_at net) is ∙ of_end in
      record { of_side = record { in_range = lt; here = inr at }; here = ap (λ (e : End). e.end) (taker_end net side there wired lt at ∙ is) }
  found_by false gives =
      let is : (joint_of net there).giver ≡ end_of i end = (find_joints net wired ends are).giver (end_of i end) no_joint (record { is_end = is_there; gives = gives }) in
      let lt = are.in_range (end_of i end) is_there in
      let at : giver_side net there ≡ side = ap (side_at net) is ∙ of_end in
      record { of_side = record { in_range = lt; here = inl at }; here = ap (λ (e : End). e.end) (giver_end net side there at ∙ is) }

  pub joint_there : IsAtEnd net side end (joint_at ends (end_of i end))
  joint_there = found_by ((behaviour_at net.primitives i).takes_in end) refl

-- A row stands at an end where it stands at the joint there.
pub stands_there : (net : Net) → IsWired net → (family : Family) (side row end j : ℕ) → IsAtEnd net side end j → HasMark net family side j (mark_at_joint net side row j) ↔ StandsAtEnd net family side row end
stands_there net wired family side row end j at = (
  λ h k of same.
      let one : k ≡ j = same_joint net wired side k j of at.of_side (same ∙ sym at.here) in
      subst (λ (m : ℕ). HasMark net family side m (mark_at_joint net side row m)) (sym one) h,
  λ stands. stands j at.of_side at.here,
)
