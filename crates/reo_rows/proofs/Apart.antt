-- Rows and their groups, at the joints of their side.
use Rattle.std.proofs.Common.{◌≡◌, ◌≢◌, inl, inr, ℕ, ◌+◌, ◌<◌, true, false, Some, refl, ap, sym, ◌∙◌, subst}
use Rattle.reo_net_base.specs.declared.mark.Mark.{Mark}
use Rattle.reo_net_base.specs.declared.joint.End.{End}
use Rattle.reo_net_base.specs.Behaviour.{Behaviour, IsEndOf}
use Rattle.reo_net_base.specs.Net.{Net, no_side, behaviour_at, first_side}
use Rattle.reo_net_base.specs.Sides.{side_count}
use Rattle.reo_net_base.specs.Wired.{IsWired}
use Rattle.reo_net_laws.specs.Ends.{IsRowOf}
use Rattle.reo_net_laws.proofs.Joined.{ends_joined}
use Rattle.reo_net_laws.proofs.Sides.{side_at_place, owner_of, owner_side}
use Rattle.reo_joint_values.specs.Values.{Family, no_joint, joint_of}
use Rattle.reo_side_tables.specs.Marks.{side_in, group_in, apart_in, end_at, mark_at_joint, common_at_joint, IsJointOf}
use Rattle.reo_side_tables.proofs.Sides.{at_is, at_in, primitive_is, apart_end, mark_as_group}
use Rattle.reo_rows.specs.declared.groups.Odd.{Odd}
use Rattle.reo_rows.specs.declared.groups.Odd.TheVariants as odds
use Rattle.reo_rows.specs.Stands.{HasMark, MarksStand, StandsAtEnd}
use Rattle.reo_rows.specs.Groups.{FailsAt, IsOdd, Excuses}
use Rattle.reo_rows.proofs.Optional.{is_some_or_not, some_same}
use Rattle.reo_rows.proofs.Plain.{giver_end, taker_end}

-- The end at which a row is apart is one of its side.
pub apart_at : (net : Net) → IsWired net → (side : ℕ) → side < side_count net → (row end : ℕ) → IsRowOf net side row → apart_in net side row ≡ Some end → IsEndOf (side_in net side).of (side_in net side).number end
apart_at net wired side lt row end in_table apart =
    let o = owner_of net.primitives side lt in
    apart_end net wired side o.primitive o.number o.primitive_in o.number_in (owner_side net.primitives side o no_side) row end in_table apart

module _ (net : Net) (wired : IsWired net) (side : ℕ) where
  module _ (i j : ℕ) (of_i : IsJointOf net side i) (of_j : IsJointOf net side j) (same : (end_at net side i).end ≡ (end_at net side j).end) where
    one_primitive : (end_at net side i).primitive ≡ (end_at net side j).primitive
    one_primitive =
        let e : End = end_at net side j in
        let is = at_in net wired side j of_j in
        let b : Behaviour = behaviour_at net.primitives e.primitive in
        let place : side ≡ first_side net.primitives e.primitive + b.side_of e.end = sym (at_is net wired side j of_j) ∙ side_at_place net e in
        primitive_is net wired side i of_i e.primitive (b.side_of e.end) is.0 ((wired.lawful e.primitive is.0).sides_in e.end is.1) place

    one_end : end_at net side i ≡ end_at net side j
    one_end = λ x. record { primitive = one_primitive x; end = same x }

    gives_and_takes : (e : End) (f : End) → e ≡ f → (behaviour_at net.primitives e.primitive).takes_in e.end ≡ false → (behaviour_at net.primitives f.primitive).takes_in f.end ≡ true → ⊥
    gives_and_takes e f is gives takes =
        let both : false ≡ true = sym gives ∙ ap (λ (x : End). (behaviour_at net.primitives x.primitive).takes_in x.end) is ∙ takes in cc

    -- There is one joint at an end.
    pub same_joint : i ≡ j
    same_joint = elim of_i.here [
      | inl at_i ↦ elim of_j.here [
        | inl at_j ↦ (ends_joined net wired).one_giver i j no_joint of_i.in_range of_j.in_range (sym (giver_end net side i at_i) ∙ one_end ∙ giver_end net side j at_j)
        | inr at_j ↦
            let is : (joint_of net i).giver ≡ (joint_of net j).taker = sym (giver_end net side i at_i) ∙ one_end ∙ taker_end net side j wired of_j.in_range at_j in
            absurd (gives_and_takes (joint_of net i).giver (joint_of net j).taker is (wired.gives i no_joint of_i.in_range) (wired.takes j no_joint of_j.in_range))
      ]
      | inr at_i ↦ elim of_j.here [
        | inl at_j ↦
            let is : (joint_of net j).giver ≡ (joint_of net i).taker = sym (giver_end net side j at_j) ∙ sym one_end ∙ taker_end net side i wired of_i.in_range at_i in
            absurd (gives_and_takes (joint_of net j).giver (joint_of net i).taker is (wired.gives j no_joint of_j.in_range) (wired.takes i no_joint of_i.in_range))
        | inr at_j ↦ (ends_joined net wired).one_taker i j no_joint of_i.in_range of_j.in_range (sym (taker_end net side i wired of_i.in_range at_i) ∙ one_end ∙ taker_end net side j wired of_j.in_range at_j)
      ]
    ]

  module _ (family : Family) (row : ℕ) (in_table : IsRowOf net side row) where
    -- Where a row is not apart, it stands as its group does.
    pub as_group : (j : ℕ) → IsJointOf net side j → apart_in net side row ≢ Some (end_at net side j).end → HasMark net family side j (common_at_joint net side (group_in net side row) j) → HasMark net family side j (mark_at_joint net side row j)
    as_group j of with h = subst (λ (m : Mark). HasMark net family side j m) (sym (mark_as_group net wired side j row of in_table with)) h

    pub group_as : (j : ℕ) → IsJointOf net side j → apart_in net side row ≢ Some (end_at net side j).end → HasMark net family side j (mark_at_joint net side row j) → HasMark net family side j (common_at_joint net side (group_in net side row) j)
    group_as j of with h = subst (λ (m : Mark). HasMark net family side j m) (mark_as_group net wired side j row of in_table with) h

    -- Where a group fails, a row that stands is apart.
    fails_apart : (end : ℕ) → FailsAt net family side (group_in net side row) end → MarksStand net family side row → apart_in net side row ≡ Some end
    fails_apart end fails stands = elim (is_some_or_not (apart_in net side row) end) [
      | inl apart ↦ apart
      | inr with ↦ absurd (fails.lacks (group_as fails.joint fails.of_side (λ e. with (e ∙ ap Some fails.here)) (stands fails.joint fails.of_side)))
    ]

    -- So it is excused where its group fails.
    pub excused : (odd : Odd) → IsOdd net family side (group_in net side row) odd → MarksStand net family side row → Excuses odd (apart_in net side row)
    excused odds.Nowhere is stands = tt
    excused (odds.At end) is stands = fails_apart end is.0 stands
    excused odds.Several is stands =
        let both : Some is.0 ≡ Some is.1 = sym (fails_apart is.0 is.3 stands) ∙ fails_apart is.1 is.4 stands in
        is.2 (some_same is.0 is.1 both)

    -- A row that is excused stands if it stands where it is apart.
    pub stands_apart : (odd : Odd) → IsOdd net family side (group_in net side row) odd → Excuses odd (apart_in net side row) → ((end : ℕ) → apart_in net side row ≡ Some end → StandsAtEnd net family side row end)
        → MarksStand net family side row
    stands_apart odds.Nowhere is excuse here j of = elim (is_some_or_not (apart_in net side row) (end_at net side j).end) [
      | inl apart ↦ here (end_at net side j).end apart j of refl
      | inr with ↦ as_group j of with (is j of)
    ]
    stands_apart (odds.At end) is excuse here j of = elim (is_some_or_not (apart_in net side row) (end_at net side j).end) [
      | inl apart ↦ here (end_at net side j).end apart j of refl
      | inr with ↦ as_group j of with (is.1 j of (λ e. with (excuse ∙ ap Some (sym e))))
    ]
    stands_apart odds.Several is excuse here j of = absurd excuse
