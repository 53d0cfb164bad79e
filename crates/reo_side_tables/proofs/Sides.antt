-- The end of a joint at a side.
use Rattle.std.proofs.Common.{◌≡◌, ◌≢◌, inl, inr, ℕ, ◌+◌, ◌<◌, Bool, true, false, cond, length, get_or, refl, ap, sym, ◌∙◌, subst, arith, Some}
use Rattle.std.specs.Bool.{◌==◌}
use Rattle.std.proofs.lemmas.Bool.{cases_lt}
use Rattle.std.proofs.lemmas.Bool.Decides.{nat_tests}
use Rattle.reo_net_base.specs.declared.joint.End.{End}
use Rattle.reo_net_base.specs.Behaviour.{Behaviour, IsEndOf}
use Rattle.reo_net_base.specs.Net.{Net, Side, all_sides, no_side, behaviour_at, first_side, row_count, side_of_end, side_at}
use Rattle.reo_net_base.specs.Wired.{IsWired, IsEnd}
use Rattle.reo_net_laws.specs.Ends.{mark_in, IsRowOf}
use Rattle.reo_net_circuit.proofs.NetLemmas.{end_side_is, first_before}
use Rattle.reo_joint_values.specs.Values.{no_joint, joint_of, giver_side}
use Rattle.reo_side_tables.specs.Marks.{side_in, groups_in, group_in, apart_in, common_in, end_at, mark_at_joint, IsJointOf}

module _ (net : Net) (wired : IsWired net) (side j : ℕ) (of : IsJointOf net side j) where
  at_for : (t : Bool) → (giver_side net j == side) ≡ t → side_at net (cond t (joint_of net j).giver (joint_of net j).taker) ≡ side
  at_for true is = let here : giver_side net j ≡ side = grind (arith, nat_tests) in here
  at_for false is = elim of.here [
    | inl here ↦ let wrong : false ≡ true = sym is ∙ (let yes : (giver_side net j == side) ≡ true = grind (arith, nat_tests) in yes) in cc
    | inr here ↦ here
  ]

  -- The end is of the side.
  pub at_is : side_at net (end_at net side j) ≡ side
  at_is = at_for (giver_side net j == side) refl

  in_for : (t : Bool) → IsEnd net.primitives (cond t (joint_of net j).giver (joint_of net j).taker)
  in_for true = wired.givers j no_joint of.in_range
  in_for false = wired.takers j no_joint of.in_range

  -- It is one of the circuit.
  pub at_in : IsEnd net.primitives (end_at net side j)
  at_in = in_for (giver_side net j == side)

  -- The side, by its end.
  pub side_here : (d : Side) → get_or (all_sides net.primitives) side d ≡ side_of_end net (end_at net side j)
  side_here d = subst (λ (s : ℕ). get_or (all_sides net.primitives) s d ≡ side_of_end net (end_at net side j)) at_is (end_side_is net wired (end_at net side j) at_in d)

  -- A row of the side is one of the table of the end's side.
  pub row_here : (row : ℕ) → IsRowOf net side row → (e : End) (b : Behaviour) (s : ℕ) → e ≡ end_at net side j → b ≡ behaviour_at net.primitives e.primitive → s ≡ b.side_of e.end → row < b.rows s
  row_here row in_table e b s e_is b_is s_is =
      let there = in_table no_side in
      let here = rw (side_here no_side) at there in
      rw (s_is, b_is, e_is) here

  pub mark_here : (row : ℕ) (e : End) (b : Behaviour) (s : ℕ) → e ≡ end_at net side j → b ≡ behaviour_at net.primitives e.primitive → s ≡ b.side_of e.end → b.mark s row e.end ≡ mark_at_joint net side row j
  unfolding mark_in
  mark_here row e b s e_is b_is s_is = rw (s_is, b_is, e_is) refl

-- Sides of two primitives have different numbers.
pub one_place : (net : Net) (i s k t : ℕ) → i < length net.primitives → k < length net.primitives → s < (behaviour_at net.primitives i).sides → t < (behaviour_at net.primitives k).sides
    → first_side net.primitives i + s ≡ first_side net.primitives k + t → i ≡ k
one_place net i s k t i_in k_in s_in t_in same = elim (cases_lt i k) [
  | inl less ↦ absurd (omega (arith, first_before net.primitives i k s less k_in s_in, same))
  | inr more ↦ elim (cases_lt k i) [
    | inl less ↦ absurd (omega (arith, first_before net.primitives k i t less i_in t_in, same))
    | inr same_place ↦ omega arith
  ]
]

module _ (net : Net) (wired : IsWired net) (side j : ℕ) (of : IsJointOf net side j) where
  -- The end is of the primitive that the side is of.
  pub primitive_is : (i s : ℕ) → i < length net.primitives → s < (behaviour_at net.primitives i).sides → side ≡ first_side net.primitives i + s → (end_at net side j).primitive ≡ i
  unfolding side_at
  primitive_is i s i_in s_in place =
      let e : End = end_at net side j in
      let is = at_in net wired side j of in
      one_place net e.primitive ((behaviour_at net.primitives e.primitive).side_of e.end) i s is.0 i_in ((wired.lawful e.primitive is.0).sides_in e.end is.1) s_in (at_is net wired side j of ∙ place)

-- The end at which a row is apart is one of its side.
pub apart_end : (net : Net) → IsWired net → (side i s : ℕ) → i < length net.primitives → s < (behaviour_at net.primitives i).sides → side_in net side ≡ record { of = behaviour_at net.primitives i; number = s }
    → (row end : ℕ) → IsRowOf net side row → apart_in net side row ≡ Some end → IsEndOf (side_in net side).of (side_in net side).number end
apart_end net wired side i s i_in s_in is row end in_table apart =
    subst (λ (x : Side). row < x.of.rows x.number → x.of.apart x.number row ≡ Some end → IsEndOf x.of x.number end) (sym is)
    (λ lt at. (wired.lawful i i_in).grouped.apart_end s row end s_in lt at) (in_table no_side) apart

-- The end of a joint is one of its side.
pub end_of_side : (net : Net) → IsWired net → (side j : ℕ) → IsJointOf net side j → (d : Side) → IsEndOf (get_or (all_sides net.primitives) side d).of (get_or (all_sides net.primitives) side d).number (end_at net side j).end
end_of_side net wired side j of d =
    subst (λ (x : Side). IsEndOf x.of x.number (end_at net side j).end) (sym (side_here net wired side j of d)) ((at_in net wired side j of).1, refl)

-- A row that is not apart at a joint has the mark of its group there.
pub mark_as_group : (net : Net) → IsWired net → (side j row : ℕ) → IsJointOf net side j → IsRowOf net side row → apart_in net side row ≢ Some (end_at net side j).end
    → mark_at_joint net side row j ≡ common_in net side (group_in net side row) (end_at net side j).end
unfolding mark_in
mark_as_group net wired side j row of in_table with =
    let e : End = end_at net side j in
    let b : Behaviour = behaviour_at net.primitives e.primitive in
    let is = at_in net wired side j of in
    let here : side_in net side ≡ side_of_end net e = side_here net wired side j of no_side in
    let lawful = wired.lawful e.primitive is.0 in
    let lt : row < b.rows (b.side_of e.end) = row_here net wired side j of row in_table e b (b.side_of e.end) refl refl refl in
    let apart : b.apart (b.side_of e.end) row ≢ Some e.end = λ h. with (ap (λ (s : Side). s.of.apart s.number row) here ∙ h) in
    lawful.grouped.common_mark (b.side_of e.end) row e.end (lawful.sides_in e.end is.1) lt (is.1, refl) apart
    ∙ ap (λ (s : Side). s.of.common s.number (s.of.group s.number row) e.end) (sym here)

-- The group of a row is one of its side.
pub group_below : (net : Net) → IsWired net → (side j row : ℕ) → IsJointOf net side j → IsRowOf net side row → group_in net side row < groups_in net side
group_below net wired side j row of in_table =
    let e : End = end_at net side j in
    let b : Behaviour = behaviour_at net.primitives e.primitive in
    let is = at_in net wired side j of in
    let here : side_in net side ≡ side_of_end net e = side_here net wired side j of no_side in
    let lawful = wired.lawful e.primitive is.0 in
    let lt : row < b.rows (b.side_of e.end) = row_here net wired side j of row in_table e b (b.side_of e.end) refl refl refl in
    subst (λ (s : Side). s.of.group s.number row < s.of.groups s.number) (sym here) (lawful.grouped.group_in (b.side_of e.end) row (lawful.sides_in e.end is.1) lt)

-- A row below the count of a side with a joint is one of its table.
pub whole_row : (net : Net) → IsWired net → (side j row : ℕ) → IsJointOf net side j → row < row_count (side_in net side) → IsRowOf net side row
whole_row net wired side j row of lt = λ d.
    let one = side_here net wired side j of no_side in
    let other = side_here net wired side j of d in
    subst (λ (s : Side). row < row_count s) (one ∙ sym other) lt
